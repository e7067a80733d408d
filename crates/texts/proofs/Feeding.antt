-- Feeding a part of a text, line by line. Assumes nothing.
use Prim.Native.Nat.{ℕ, ◌+◌, ◌-◌, ◌≤◌, ◌<◌}
use mathlib.Core.Bool.{true, false, ◌&&◌, and-eq-true_iff}
use mathlib.Core.List.{List, [], ◌++◌, append-nil}
use mathlib.Core.Logic.{◌⊎◌, inl, inr, ⊎_elim}
use mathlib.Core.Path.{◌≡◌, refl, sym, ap, ◌∙◌, subst}
use native.Mathlib.Omega.{arith}
use lib.Dec.{leb, ltb}
use lib.ListN.{length, take, drop, length-append, length-drop}
use lib.Seq.{sets-eq, take_all, take_at, drop_at, drop-drop, take-add, length-take-le}
use borrow.Author.Tests.{leb-true, ltb-true, le-leb, lt-ltb}
use Rattle.rules.specs.Rows.{flag}
use Rattle.rules.specs.Words.{put}
use Rattle.laws.proofs.Tests.{test, by-lt, clash}
use Rattle.laws.proofs.Writes.{length-put}
use Rattle.lines.specs.Reply.{answer_text}
use Rattle.turns.specs.Turns.{turned}
use Rattle.texts.specs.Cuts.{line_in, ends?, Cuts}
use Rattle.texts.specs.Feeds.{Reader, read_by, printed_by, Alike, Same, reader, Answered, Settled, Reads, Feeds}
use Rattle.texts.specs.declared.Cut.{Cut}
use Rattle.texts.specs.declared.Place.{Place}
use Rattle.texts.specs.declared.Fed.{Fed}
use Rattle.texts.proofs.Lines.{read-append, printed-append, ended-read, on_read}
use Rattle.texts.proofs.Alike.{alike_turned, same-trans, same_self, same_read, same-printed, kept-alike}

-- WHAT IS WRITTEN

module _ (out text : List ℕ) (used : ℕ) (fits : used + length text ≤ length out) where
  n-is : length (take used out ++ text) ≡ used + length text
  n-is = length-append (take used out) text ∙ ap (λ k. k + length text) (length-take-le used out (omega arith))

  -- The bytes used, once more are written behind them, and the bytes past them.
  pub take-written : take (used + length text) (put out used text) ≡ take used out ++ text
  unfolding put
  take-written = rw (sets-eq text out used fits) (take_at (take used out ++ text) (drop (used + length text) out) (used + length text) n-is)

  drop-written : drop (used + length text) (put out used text) ≡ drop (used + length text) out
  unfolding put
  drop-written = rw (sets-eq text out used fits) (drop_at (take used out ++ text) (drop (used + length text) out) (used + length text) n-is)

-- LINE BY LINE

-- Nothing has been read.
pub reads_nothing : (s : Reader) (text out : List ℕ) → Reads s text 0 s out 0 out
unfolding read_by printed_by
reads_nothing s text out = record { within = omega arith; stands = same_self s; prints = refl; fits = omega arith; kept = refl; bounded = omega arith }

module _ (s : Reader) (text : List ℕ) (at : ℕ) (words changes line : List ℕ) (len : ℕ) (out₀ : List ℕ) (used : ℕ) (out : List ℕ)
    (r : Reads s text at (reader words changes line len) out₀ used out) (sized : length out ≡ length out₀)
    (c : Cut) (line' : List ℕ) (k : Cuts text at line len c line') (wide : 65 ≤ length line) where
  abbrev rest : List ℕ
  rest = drop at text

  abbrev here : Reader
  here = reader words changes line len

  c-at : c.at ≡ at + length (line_in rest) + flag (ends? rest)
  c-at = ap (λ c. c.at) k.cut-is

  same_line : Alike (take c.kept line') (take len line ++ line_in rest)
  same_line = let e = ap (λ c. c.kept) k.cut-is in rw (e, k.line-is) (kept-alike line (line_in rest) len wide)

  -- The reader that has read n bytes more stands as the whole so far leaves it, and has printed that.
  stands_on : (n : ℕ) (q : Reader) → Same q (read_by here (take n rest)) → Same q (read_by s (take (at + n) text))
  stands_on n q h =
      let e : read_by s (take (at + n) text) ≡ read_by (read_by s (take at text)) (take n rest) = ap (read_by s) (take-add at n text) ∙ read-append (take at text) (take n rest) s in
      rw e (same-trans q (read_by here (take n rest)) _ h (same_read (take n rest) here (read_by s (take at text)) r.stands))

  prints-on : (n : ℕ) → take used out ++ printed_by here (take n rest) ≡ printed_by s (take (at + n) text)
  prints-on n =
      ap (λ p. p ++ printed_by here (take n rest)) r.prints ∙ ap (λ p. printed_by s (take at text) ++ p) (same-printed (take n rest) here (read_by s (take at text)) r.stands)
      ∙ sym (ap (printed_by s) (take-add at n text) ∙ printed-append (take at text) (take n rest) s)

  -- The line goes on past this part.
  pub reads_on : ends? rest ≡ false → Reads s text c.at (reader words changes line' c.kept) out₀ used out
  reads_on f =
      let o = on_read rest here f in
      let n = o.0 in
      let l = length-drop at text in
      let b = r.within in
      let z : flag (ends? rest) ≡ 0 = ap flag f in
      let e : c.at ≡ at + length rest = c-at ∙ omega arith in
      let all : take (length rest) rest ≡ rest = take_all (length rest) rest (omega arith) in
      let h : Same (reader words changes line' c.kept) (read_by here (take (length rest) rest)) =
      rw (all, o.1) (record { words_are = refl; changes-are = refl; begun-alike = same_line }) in
      record {
        within = omega arith;
        stands = rw e (stands_on (length rest) (reader words changes line' c.kept) h);
        prints = rw e (sym (append-nil (take used out)) ∙ ap (λ p. take used out ++ p) (sym (ap (printed_by here) all ∙ o.2)) ∙ prints-on (length rest));
        fits = r.fits;
        kept = r.kept;
        bounded = omega (arith, r.bounded);
      }

  -- The line ends and is answered.
  pub reads-answered : ends? rest ≡ true → (words' changes' out' : List ℕ) (used' : ℕ) → Answered words changes (take c.kept line') out used words' changes' out' used' → used + 67 ≤ length out →
      Reads s text c.at (reader words' changes' line' 0) out₀ used' out'
  reads-answered t words' changes' out' used' a room =
      let o = ended-read rest here t in
      let n = o.0 in
      let l = length-drop at text in
      let b = r.within in
      let m = r.bounded in
      let z : flag (ends? rest) ≡ 1 = ap flag t in
      let e : c.at ≡ at + (length (line_in rest) + 1) = c-at ∙ omega arith in
      let told = alike_turned words changes (take c.kept line') (take len line ++ line_in rest) same_line in
      let said = answer_text (turned words changes (take c.kept line')).said in
      let u = a.text-is.past in
      let short = a.short in
      let fit : used + length said ≤ length out = omega arith in
      let h : Same (reader words' changes' line' 0) (read_by here (take (length (line_in rest) + 1) rest)) =
      rw o.1 (record { words_are = a.words_are ∙ ap (λ t. t.words) told; changes-are = a.changes-are ∙ ap (λ t. t.changes) told; begun-alike = inl refl }) in
      record {
        within = omega arith;
        stands = rw e (stands_on (length (line_in rest) + 1) (reader words' changes' line' 0) h);
        prints = rw e
            (ap (take used') a.text-is.list ∙ ap (λ n. take n (put out used said)) u ∙ take-written out said used fit
            ∙ ap (λ p. take used out ++ p) (ap (λ t. answer_text t.said) told ∙ sym o.2) ∙ prints-on (length (line_in rest) + 1));
        fits = omega arith;
        kept = ap (drop used') a.text-is.list ∙ ap (λ n. drop n (put out used said)) u ∙ drop-written out said used fit
            ∙ sym (drop-drop (length said) used out) ∙ ap (drop (length said)) r.kept ∙ drop-drop (length said) used out₀ ∙ ap (λ n. drop n out₀) (sym u);
        bounded = omega arith;
      }

  -- Either, by what became of the line that was read.
  pub reads-settled : (words' changes' out' : List ℕ) (p : Place) → Settled c words changes line' out used words' changes' out' p → used + 67 ≤ length out →
      Reads s text c.at (reader words' changes' line' p.kept) out₀ p.used out' × (length out' ≡ length out₀)
  reads-settled words' changes' out' p h room =
      let e = ap (λ c. c.ended) k.cut-is in
      test (ends? rest)
      (λ t.
      let a = h.ended (e ∙ t) in (
        subst (λ n. Reads s text c.at (reader words' changes' line' n) out₀ p.used out') (sym a.1) (reads-answered t words' changes' out' p.used a.0 room),
        ap length a.0.text-is.list ∙ length-put out used _ ∙ sized,
      ))
      (λ f.
      let o = h.on (e ∙ f) in
      rw (o.0, o.1, o.2, o.3) (reads_on f, sized))

-- A byte at least is read of a text that is not at its end.
pub cut-forward : (text : List ℕ) (at : ℕ) (line : List ℕ) (len : ℕ) (c : Cut) (line' : List ℕ) → Cuts text at line len c line' → at < length text → at < c.at
cut-forward text at line len c line' k l =
    let e = ap (λ c. c.at) k.cut-is in
    let m = length-drop at text in
    let s : Reader = record { words = []; changes = []; begun = [] } in
    test (ends? (drop at text)) (λ t. let z : flag (ends? (drop at text)) ≡ 1 = ap flag t in omega arith) (λ f. omega (arith, (on_read (drop at text) s f).0))

-- THE TEST OF THE LOOP

-- There is more to read and room for an answer, and where not, one is why.
pub goes_in : (n at m l u : ℕ) → leb 65 n && ltb at m && leb 67 (l - u) ≡ true → (65 ≤ n) × (at < m) × (u + 67 ≤ l)
goes_in n at m l u h =
    let a = simp and-eq-true_iff at h in
    let r = leb-true 67 (l - u) a.1 in (leb-true 65 n a.0.0, ltb-true at m a.0.1, omega arith)

pub goes-out : (n at m l l₀ u : ℕ) → leb 65 n && ltb at m && leb 67 (l - u) ≡ false → at ≤ m → u ≤ l₀ → l ≡ l₀ → 65 ≤ n → (at ≡ m) ⊎ (l₀ < u + 67)
goes-out n at m l l₀ u h a b s wide =
    by-lt at m
    (λ t. by-lt l₀ (u + 67) (λ r. inr r) (λ r.
    let e : leb 65 n && ltb at m && leb 67 (l - u) ≡ true = simp and-eq-true_iff ((le-leb 65 n wide, lt-ltb at m t), le-leb 67 (l - u) (omega arith)) in
    absurd (clash e h)))
    (λ t. inl (omega arith))

-- Of a text that is not empty a byte at least is taken, where out has room for an answer.
pub fed-forward : (text words changes line : List ℕ) (kept : ℕ) (out : List ℕ) (f : Fed) (words' changes' line' out' : List ℕ) → Feeds text words changes line kept out f words' changes' line' out' →
    65 ≤ length line → 67 ≤ length out → 0 < length text → 0 < f.taken
fed-forward text words changes line kept out f words' changes' line' out' h wide room some =
    ⊎_elim (λ e. omega arith) (λ l. omega (arith, h.reads.bounded)) (h.goes_on wide)
