-- `parse` and `printed` undo each other: every command in range is read from its line, and a line that is read is the line of its command, or one to go in window 0
-- that leaves its root frame out. Assumes nothing.
use Prim.Native.Nat.{ℕ, zero, suc, ◌+◌, ◌≤◌}
use mathlib.Core.Bool.{true, false, and-eq-true_iff}
use mathlib.Core.List.{List, [], ◌∷◌, ◌++◌}
use mathlib.Core.Logic.{◌⊎◌, inl, inr}
use mathlib.Core.Path.{◌≡◌, refl, sym, ap, subst, ◌∙◌}
use native.Mathlib.Omega.{arith}
use lib.Dec.{ltb}
use lib.IntN.{ℤ, pos, negsuc}
use lib.ListN.{length, get_or, take, drop, length-append, get_or-append}
use lib.Seq.{take_all}
use borrow.Author.Tests.{le-ltb, le-leb, ltb-true, ltb-false, eqb-true, eq-eqb, ne_eqb}
use Rattle.std.specs.Prelude.{Option, Some, None}
use Rattle.rules.specs.Below.{all_below}
use Rattle.laws.proofs.Tests.{test, all_in}
use Rattle.lines.specs.Decimal.{decimal, signed, numeral}
use Rattle.lines.specs.Lines.{Command, Amount, InRange, open_word, nav_word, go_word, drop_word, replace_word, tab_word, starts?, tab?, minus?, numbered, forth, back, going_by, blank_at, root_named, going, other_word, worded, parse, printed, unnamed}
use Rattle.lines.proofs.Firsts.{starts-not, word-starts, tab-only}
use Rattle.lines.proofs.Texts.{decimal-within}
use Rattle.lines.proofs.Spelling.{spells, numeral-decimal, numeral-only}
use Rattle.lines.proofs.Blanks.{signed-solid, going-solid, going-both, blank-splits}

-- A word and what follows it.
starts-word : (word rest : List ℕ) → starts? word (word ++ rest) ≡ true
unfolding starts?
starts-word word rest =
    let l : length word ≤ length (word ++ rest) = omega (arith, length-append word rest) in
    simp and-eq-true_iff (le-leb _ _ l, all_in _ (length word) (λ k m. eq-eqb _ _ (get_or-append word rest 0 k m)))

-- EVERY COMMAND IS READ

-- A decimal of 32 bits has at most 10 digits.
ten : (n : ℕ) → n ≤ 4294967295 → length (decimal n) ≤ 10
ten n l = decimal-within 9 n (omega arith)

-- A decimal starts with no minus.
no_minus : (n : ℕ) → minus? (decimal n) ≡ false
no_minus n = let s = spells n in let d = s.digits 0 s.some in ne_eqb (get_or (decimal n) 0 0) 45 (λ e. omega arith)

-- An amount is read in window r from its own text, of at most 11 bytes.
going-signed : (r : ℕ) (δ : ℤ) → Amount δ → going_by r (signed δ) ≡ Command.goes r δ
unfolding going_by
going-signed r (pos n) l = rw (no_minus n, numeral-decimal 2147483647 n l) refl
going-signed r (negsuc n) l = rw (numeral-decimal 2147483648 (suc n) l) refl

signed-length : (δ : ℤ) → Amount δ → length (signed δ) ≤ 11
signed-length (pos n) l = let t = ten n (omega arith) in omega arith
signed-length (negsuc n) l = let t = ten (suc n) (omega arith) in omega arith

short : (line : List ℕ) (c : Command) → length line ≤ 64 → worded line ≡ c → parse line ≡ c
unfolding parse
short line c l e = rw (le-ltb 64 (length line) l) e

worded-empty : worded [] ≡ Command.bad
unfolding worded other_word tab? starts?
worded-empty = refl

-- `tab` is none of the words before it.
worded-tab : worded tab_word ≡ Command.tabs
unfolding worded other_word tab? starts? all_below
worded-tab = refl

-- After `go `.
parse-go : (rest : List ℕ) (c : Command) → length rest ≤ 22 → going rest ≡ c → parse (go_word ++ rest) ≡ c
unfolding worded
parse-go rest c l e =
    let o = sym (starts-not open_word (go_word ++ rest) 0 (omega arith) (λ e. omega arith)) in
    let n = sym (starts-not nav_word (go_word ++ rest) 0 (omega arith) (λ e. omega arith)) in
    short (go_word ++ rest) c (omega arith) (rw (o, n, starts-word go_word rest) e)

pub parse-printed : (c : Command) → InRange c → parse (printed c) ≡ c
unfolding printed worded other_word
parse-printed (Command.opens d) l =
    let t = ten d l in
    short (open_word ++ decimal d) _ (omega arith) (rw (starts-word open_word (decimal d), numeral-decimal 4294967295 d l) refl)
parse-printed (Command.navs d) l =
    let t = ten d l in
    let o = sym (starts-not open_word (nav_word ++ decimal d) 0 (omega arith) (λ e. omega arith)) in
    short (nav_word ++ decimal d) _ (omega arith) (rw (o, starts-word nav_word (decimal d), numeral-decimal 4294967295 d l) refl)
parse-printed (Command.goes r δ) l =
    let t = signed-length δ l.1 in
    let d = ten r l.0 in
    parse-go (signed δ ++ 32 ∷ decimal r) _ (omega (arith, length-append (signed δ) (32 ∷ decimal r)))
    (going-both (signed δ) (signed-solid δ) (decimal r) (Some r) (numeral-decimal 4294967295 r l.0) ∙ going-signed r δ l.1)
parse-printed (Command.drops f) l =
    let t = ten f l in
    let o = sym (starts-not open_word (drop_word ++ decimal f) 0 (omega arith) (λ e. omega arith)) in
    let n = sym (starts-not nav_word (drop_word ++ decimal f) 0 (omega arith) (λ e. omega arith)) in
    let g = sym (starts-not go_word (drop_word ++ decimal f) 0 (omega arith) (λ e. omega arith)) in
    short (drop_word ++ decimal f) _ (omega arith) (rw (o, n, g, starts-word drop_word (decimal f), numeral-decimal 4294967295 f l) refl)
parse-printed (Command.replaces d) l =
    let t = ten d l in
    let o = sym (starts-not open_word (replace_word ++ decimal d) 0 (omega arith) (λ e. omega arith)) in
    let n = sym (starts-not nav_word (replace_word ++ decimal d) 0 (omega arith) (λ e. omega arith)) in
    let g = sym (starts-not go_word (replace_word ++ decimal d) 0 (omega arith) (λ e. omega arith)) in
    let f = sym (starts-not drop_word (replace_word ++ decimal d) 0 (omega arith) (λ e. omega arith)) in
    short (replace_word ++ decimal d) _ (omega arith) (rw (o, n, g, f, starts-word replace_word (decimal d), numeral-decimal 4294967295 d l) refl)
parse-printed Command.tabs l = short tab_word _ (omega arith) worded-tab
parse-printed Command.bad l = short [] _ (omega arith) worded-empty

-- "R being 0 when left out"
pub parse-unnamed : (δ : ℤ) → Amount δ → parse (unnamed δ) ≡ Command.goes 0 δ
parse-unnamed δ l = let t = signed-length δ l in parse-go (signed δ) _ (omega arith) (going-solid (signed δ) (signed-solid δ) ∙ going-signed 0 δ l)

-- ONLY THESE LINES ARE READ

-- What a line is that is read as a command: its line, or one to go in window 0 that leaves its root frame out; and in range.
pub record Line (line : List ℕ) (c : Command) : Type 0 where
  pub text : (line ≡ printed c) ⊎ ((δ : ℤ) × (c ≡ Command.goes 0 δ) × (line ≡ unnamed δ))
  pub fits : InRange c

-- A command that is not bad.
abbrev Good : Command → Type 0
Good c = c ≡ Command.bad → ⊥

-- A word and a number after it.
numbered-only : (asks : ℕ → Command) (top : ℕ) (word rest : List ℕ) → ((n : ℕ) → printed (asks n) ≡ word ++ decimal n) → ((n : ℕ) → n ≤ top → InRange (asks n)) →
    (line : List ℕ) → line ≡ word ++ rest → (k : Option ℕ) → k ≡ numeral top rest → Good (numbered asks k) → Line line (numbered asks k)
numbered-only asks top word rest says fits line w (Some n) e g =
    let o = numeral-only _ _ n (sym e) in record { text = inl (w ∙ ap (λ t. word ++ t) o.0 ∙ sym (says n)); fits = fits n o.1 }
numbered-only asks top word rest says fits line w None e g = absurd (g refl)

-- The lines of the commands with one number.
opens-says : (n : ℕ) → printed (Command.opens n) ≡ open_word ++ decimal n
unfolding printed
opens-says n = refl

navs-says : (n : ℕ) → printed (Command.navs n) ≡ nav_word ++ decimal n
unfolding printed
navs-says n = refl

drops-says : (n : ℕ) → printed (Command.drops n) ≡ drop_word ++ decimal n
unfolding printed
drops-says n = refl

replaces-says : (n : ℕ) → printed (Command.replaces n) ≡ replace_word ++ decimal n
unfolding printed
replaces-says n = refl

-- A text with a minus is a minus and the rest.
minus-rest : (text : List ℕ) → minus? text ≡ true → text ≡ 45 ∷ drop 1 text
minus-rest [] m = let z : ◌≡◌ {A = ℕ} 0 45 = eqb-true 0 45 m in absurd (omega arith)
minus-rest (b ∷ text) m = ap (λ a. a ∷ text) (eqb-true b 45 m)

-- A text that is read as an amount in window r: it is the amount's.
record By (r : ℕ) (text : List ℕ) (c : Command) : Type 0 where
  amount : ℤ
  asks : c ≡ Command.goes r amount
  says : text ≡ signed amount
  small : Amount amount

forth-by : (r : ℕ) (text : List ℕ) (k : Option ℕ) → k ≡ numeral 2147483647 text → Good (forth r k) → By r text (forth r k)
forth-by r text (Some n) e g = let o = numeral-only _ _ n (sym e) in record { amount = pos n; asks = refl; says = o.0; small = o.1 }
forth-by r text None e g = absurd (g refl)

back_by : (r : ℕ) (text : List ℕ) (k : Option ℕ) → minus? text ≡ true → k ≡ numeral 2147483648 (drop 1 text) → Good (back r k) → By r text (back r k)
back_by r text (Some zero) m e g = absurd (g refl)
back_by r text (Some (suc n)) m e g =
    let o = numeral-only _ _ (suc n) (sym e) in
    record { amount = negsuc n; asks = refl; says = minus-rest text m ∙ ap (λ t. 45 ∷ t) o.0; small = o.1 }
back_by r text None m e g = absurd (g refl)

going-by : (r : ℕ) (text : List ℕ) → Good (going_by r text) → By r text (going_by r text)
unfolding going_by
going-by r text g =
    test (minus? text)
    (λ m. rw m (back_by r text _ m refl (rw m at g)))
    (λ m. rw m (forth-by r text _ refl (rw m at g)))

-- With the root frame named, and left out.
module _ (line text : List ℕ) (w : line ≡ go_word ++ text) where
  named-only : (front rest : List ℕ) → text ≡ front ++ 32 ∷ rest → (k : Option ℕ) → k ≡ numeral 4294967295 rest
      → Good (numbered (λ r. going_by r front) k) → Line line (numbered (λ r. going_by r front) k)
  unfolding printed
  named-only front rest x (Some r) e g =
      let o = numeral-only _ _ r (sym e) in
      let b = going-by r front g in
      rw b.asks (record {
        text = inl (w ∙ ap (λ t. go_word ++ t) (x ∙ ap (λ t. t ++ 32 ∷ rest) b.says ∙ ap (λ t. signed b.amount ++ 32 ∷ t) o.0));
        fits = (o.1, b.small);
      })
  named-only front rest x None e g = absurd (g refl)

  unnamed-only : Good (going_by 0 text) → Line line (going_by 0 text)
  unnamed-only g =
      let b = going-by 0 text g in
      rw b.asks (record { text = inr (b.amount, refl, w ∙ ap (λ t. go_word ++ t) b.says); fits = (omega arith, b.small) })

  going-only : Good (going text) → Line line (going text)
  unfolding going root_named
  going-only g =
      test (ltb (blank_at text) (length text))
      (λ l. rw l (named-only (take (blank_at text) text) (drop (blank_at text + 1) text) (blank-splits text (ltb-true _ _ l)) _ refl (rw l at g)))
      (λ l. let e : take (blank_at text) text ≡ text = take_all _ text (ltb-false _ _ l) in rw (l, e) (unnamed-only (rw (l, e) at g)))

-- The line of `tab`.
tab-says : (line : List ℕ) → line ≡ tab_word → line ≡ printed Command.tabs
unfolding printed
tab-says line e = e

other-only : (line : List ℕ) → Good (other_word line) → Line line (other_word line)
unfolding other_word
other-only line g =
    test (starts? drop_word line)
    (λ d. rw d (numbered-only Command.drops 4294967295 drop_word (drop 5 line) drops-says (λ n l. l) line (word-starts drop_word line d) _ refl (rw d at g)))
    (λ d.
    test (starts? replace_word line)
    (λ r. rw (d, r) (numbered-only Command.replaces 4294967295 replace_word (drop 8 line) replaces-says (λ n l. l) line (word-starts replace_word line r) _ refl (rw (d, r) at g)))
    (λ r.
    test (tab? line)
    (λ t. rw (d, r, t) (record { text = inl (tab-says line (tab-only line t)); fits = tt }))
    (λ t. absurd ((rw (d, r, t) at g) refl))))

worded-only : (line : List ℕ) → Good (worded line) → Line line (worded line)
unfolding worded
worded-only line g =
    test (starts? open_word line)
    (λ o. rw o (numbered-only Command.opens 4294967295 open_word (drop 5 line) opens-says (λ n l. l) line (word-starts open_word line o) _ refl (rw o at g)))
    (λ o.
    test (starts? nav_word line)
    (λ n. rw (o, n) (numbered-only Command.navs 4294967295 nav_word (drop 4 line) navs-says (λ n l. l) line (word-starts nav_word line n) _ refl (rw (o, n) at g)))
    (λ n.
    test (starts? go_word line)
    (λ k. rw (o, n, k) (going-only line (drop 3 line) (word-starts go_word line k) (rw (o, n, k) at g)))
    (λ k. rw (o, n, k) (other-only line (rw (o, n, k) at g)))))

-- "Any other line prints `bad`."
pub parse-only : (line : List ℕ) (c : Command) → parse line ≡ c → (c ≡ Command.bad → ⊥) → Line line c
unfolding parse
parse-only line c e g =
    test (ltb 64 (length line))
    (λ t. absurd (g (sym (rw t at e))))
    (λ t. let f : worded line ≡ c = rw t at e in subst (Line line) f (worded-only line (λ b. g (sym f ∙ b))))
