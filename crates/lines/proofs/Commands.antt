-- What a line asks, test by test. Assumes nothing.
use Prim.Native.Nat.{ℕ, ◌+◌, ◌-◌, ◌≤◌, ◌<◌}
use mathlib.Core.Bool.{Bool, true, false}
use mathlib.Core.List.{List, [], ◌∷◌}
use mathlib.Core.Path.{◌≡◌, refl, sym, ◌∙◌}
use native.Mathlib.Omega.{arith}
use lib.Dec.{eqb, ltb}
use lib.ListN.{length, drop, take, length-drop}
use lib.Pointwise.{pointwise}
use lib.Seq.{take_all}
use borrow.Author.Tests.{lt-ltb, le-ltb, ltb-true, ltb-false}
use Rattle.std.specs.Prelude.{Option, Some, None}
use Rattle.std.specs.Bool.{then_some}
use Rattle.std.specs.List.{position, position_or_len}
use Rattle.std.proofs.lemmas.List.Sums.{position_or_len_is}
use Rattle.laws.proofs.Tests.{test}
use Rattle.laws.proofs.Loops.{earliest-out}
use Rattle.lines.specs.Decimal.{numeral}
use Rattle.lines.specs.Lines.{Command, open_word, nav_word, go_word, drop_word, replace_word, tab_word, starts?, minus?, numbered, opening, navigating, dropping, replacement, forth, back, going_by, blank_at, root_named, going, tab?, other_word, worded, parse, command_is}
use Rattle.lines.specs.declared.Command.TheVariants.{Tab}
use Rattle.lines.proofs.Firsts.{prefix_is, minus_is, tab_is}

-- What std says of a line with a word first and these bytes after it, and of one without.
abbrev pub Found : List ℕ → List ℕ → List ℕ → Type 0
Found word line rest = (pointwise eqb (take (length word) line) word ≡ true) × (rest ≡ drop (length word) line) × (length rest + length word ≡ length line)

abbrev pub Lacks : List ℕ → List ℕ → Type 0
Lacks word line = pointwise eqb (take (length word) line) word ≡ false

found : (word line rest : List ℕ) → Found word line rest → starts? word line ≡ true
found word line rest h = sym (prefix_is word line) ∙ h.0

lacks : (word line : List ℕ) → Lacks word line → starts? word line ≡ false
lacks word line h = sym (prefix_is word line) ∙ h

-- In what follows k is the number that is read in what follows a word.

module _ (text : List ℕ) (w : ℕ) (k : Option ℕ) where
  -- An amount in window w, with a minus and without.
  pub going_back : (rest : List ℕ) → Found (45 ∷ []) text rest → k ≡ numeral 2147483648 rest → back w k ≡ going_by w text
  unfolding going_by
  going_back rest h e = let m : minus? text ≡ true = sym (minus_is text) ∙ h.0 in rw (m, e, h.1) refl

  pub going_forth : Lacks (45 ∷ []) text → k ≡ numeral 2147483647 text → forth w k ≡ going_by w text
  unfolding going_by
  going_forth h e = let m : minus? text ≡ false = sym (minus_is text) ∙ h in rw (m, e) refl

-- A part to the end.
pub to_end : (text : List ℕ) (i : ℕ) → i ≤ length text → take (length text - i) (drop i text) ≡ drop i text
to_end text i l = take_all (length text - i) (drop i text) (omega (arith, length-drop i text))

module _ (text : List ℕ) where
  -- The first blank, as std finds it.
  blank-is : position_or_len (λ b. eqb b 32) text ≡ blank_at text
  blank-is = let e = earliest-out _ (length text) in position_or_len_is (λ b. eqb b 32) text (blank_at text) 0 e.within e.none_before e.passes

  first-blank : ltb (blank_at text) (length text) ≡ true → position (λ b. eqb b 32) text ≡ Some (blank_at text)
  first-blank t = rw (blank-is, t) refl

  no-blank : ltb (blank_at text) (length text) ≡ false → position (λ b. eqb b 32) text ≡ None
  no-blank f = rw (blank-is, f) refl

  -- In the window of root frame 0, where there is none; in the one that is named after it, if one is.
  pub going_alone : position (λ b. eqb b 32) text ≡ None → going_by 0 text ≡ going text
  unfolding going root_named
  going_alone e =
      test (ltb (blank_at text) (length text))
      (λ t. let f = sym (first-blank t) ∙ e in cc)
      (λ f. let a : take (blank_at text) text ≡ text = take_all _ text (ltb-false _ _ f) in rw (f, a) refl)

  pub going_named : (at : ℕ) (k : Option ℕ) → position (λ b. eqb b 32) text ≡ Some at → k ≡ numeral 4294967295 (take (length text - (at + 1)) (drop (at + 1) text))
      → numbered (λ r. going_by r (take at text)) k ≡ going text
  unfolding going root_named
  going_named at k e h =
      test (ltb (blank_at text) (length text))
      (λ t.
      let f : Some (blank_at text) ≡ Some at = sym (first-blank t) ∙ e in
      let a : blank_at text ≡ at = cc in
      let l = ltb-true (blank_at text) (length text) t in
      rw (t, a, h, to_end text (at + 1) (omega arith)) refl)
      (λ f. let g = sym (no-blank f) ∙ e in cc)

module _ (line rest : List ℕ) (k : Option ℕ) where
  pub worded_open : Found open_word line rest → k ≡ numeral 4294967295 rest → opening k ≡ worded line
  unfolding worded
  worded_open h e = rw (found open_word line rest h, e, h.1) refl

  pub worded_nav : Lacks open_word line → Found nav_word line rest → k ≡ numeral 4294967295 rest → navigating k ≡ worded line
  unfolding worded
  worded_nav o h e = rw (lacks open_word line o, found nav_word line rest h, e, h.1) refl

module _ (line : List ℕ) (o : Lacks open_word line) (n : Lacks nav_word line) where
  pub worded_go : (rest : List ℕ) → Found go_word line rest → going rest ≡ worded line
  unfolding worded
  worded_go rest h = rw (lacks open_word line o, lacks nav_word line n, found go_word line rest h, h.1) refl

  module _ (g : Lacks go_word line) where
    others : other_word line ≡ worded line
    unfolding worded
    others = rw (lacks open_word line o, lacks nav_word line n, lacks go_word line g) refl

    pub worded_drop : (rest : List ℕ) (k : Option ℕ) → Found drop_word line rest → k ≡ numeral 4294967295 rest → dropping k ≡ worded line
    unfolding other_word
    worded_drop rest k h e = rw (← others, found drop_word line rest h, e, h.1) refl

    module _ (d : Lacks drop_word line) where
      pub worded_replace : (rest : List ℕ) (k : Option ℕ) → Found replace_word line rest → k ≡ numeral 4294967295 rest → replacement k ≡ worded line
      unfolding other_word
      worded_replace rest k h e = rw (← others, lacks drop_word line d, found replace_word line rest h, e, h.1) refl

      pub worded_tab : Lacks replace_word line → (b : Bool) → b ≡ pointwise eqb line tab_word → command_is (then_some b Tab) ≡ worded line
      unfolding other_word
      worded_tab r b e =
          rw (← others, lacks drop_word line d, lacks replace_word line r, e, tab_is line)
          (test (tab? line) (λ t. rw t refl) (λ f. rw f refl))

module _ (line : List ℕ) where
  pub parse_long : 64 < length line → Command.bad ≡ parse line
  unfolding parse
  parse_long l = rw (lt-ltb 64 (length line) l) refl

  pub parse_words : length line ≤ 64 → worded line ≡ parse line
  unfolding parse
  parse_words l = rw (le-ltb 64 (length line) l) refl
