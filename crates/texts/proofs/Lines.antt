-- A text read in parts prints what it prints as a whole. Assumes nothing.
use Prim.Native.Nat.{ℕ, suc, ◌+◌, ◌≤◌}
use mathlib.Core.Bool.{true, false}
use mathlib.Core.List.{List, [], ◌∷◌, ◌++◌, append_assoc, append-nil}
use mathlib.Core.Path.{◌≡◌, refl, sym, ap, ◌∙◌}
use native.Mathlib.Omega.{arith}
use lib.Dec.{eqb}
use lib.ListN.{length, take}
use Rattle.laws.proofs.Tests.{test, clash}
use Rattle.lines.specs.Reply.{answer_text}
use Rattle.turns.specs.Turns.{turned}
use Rattle.texts.specs.Texts.{unended, lines_from, answers}
use Rattle.texts.specs.Cuts.{line_in, ends?}
use Rattle.texts.specs.Feeds.{Reader, longer, onward, read_by, printed_by}

-- One part after the other.
pub read-append : (a b : List ℕ) (s : Reader) → read_by s (a ++ b) ≡ read_by (read_by s a) b
unfolding read_by
read-append [] b s = refl
read-append (x ∷ a) b s = test (eqb x 10) (λ t. rw t (read-append a b (onward s))) (λ f. rw f (read-append a b (longer s x)))

pub printed-append : (a b : List ℕ) (s : Reader) → printed_by s (a ++ b) ≡ printed_by s a ++ printed_by (read_by s a) b
unfolding read_by printed_by
printed-append [] b s = refl
printed-append (x ∷ a) b s =
    test (eqb x 10)
    (λ t. let said = answer_text (turned s.words s.changes s.begun).said in
    rw t (ap (λ p. said ++ p) (printed-append a b (onward s)) ∙ sym (append_assoc said (printed_by (onward s) a) (printed_by (read_by (onward s) a) b))))
    (λ f. rw f (printed-append a b (longer s x)))

-- The whole: what the lines that end print, and then the last line, where it lacks its newline.
pub printed-whole : (text : List ℕ) (s : Reader) →
    answers s.words s.changes (lines_from s.begun text)
    ≡ printed_by s text ++ answers (read_by s text).words (read_by s text).changes (unended (read_by s text).begun)
unfolding read_by printed_by lines_from answers
printed-whole [] s = refl
printed-whole (x ∷ text) s =
    test (eqb x 10)
    (λ t. let said = answer_text (turned s.words s.changes s.begun).said in
    let last = answers (read_by (onward s) text).words (read_by (onward s) text).changes (unended (read_by (onward s) text).begun) in
    rw t (ap (λ p. said ++ p) (printed-whole text (onward s)) ∙ sym (append_assoc said (printed_by (onward s) text) last)))
    (λ f. rw f (printed-whole text (longer s x)))

-- A LINE OF A TEXT

-- The reader whose line has grown by a run.
abbrev pub grown_by : Reader → List ℕ → Reader
grown_by s run = record { words = s.words; changes = s.changes; begun = s.begun ++ run }

-- A text whose line ends: that line and its newline.
pub ended-read : (text : List ℕ) (s : Reader) → ends? text ≡ true → (length (line_in text) + 1 ≤ length text) × (read_by s (take (length (line_in text) + 1) text) ≡ onward (grown_by s (line_in text)))
    × (printed_by s (take (length (line_in text) + 1) text) ≡ answer_text (turned s.words s.changes (s.begun ++ line_in text)).said)
unfolding read_by printed_by line_in ends?
ended-read [] s e = absurd (clash e refl)
ended-read (x ∷ text) s e =
    test (eqb x 10)
    (λ t. rw (t, append-nil s.begun, t) (omega arith, refl, append-nil _))
    (λ f.
    let r = ended-read text (longer s x) (rw f at e) in
    let n : suc (length (line_in text)) + 1 ≡ suc (length (line_in text) + 1) = omega arith in
    rw (f, n, f) (omega (arith, r.0), r.1 ∙ rw (append_assoc s.begun (x ∷ []) (line_in text)) refl, r.2 ∙ rw (append_assoc s.begun (x ∷ []) (line_in text)) refl))

-- A text whose line does not end: all of it is of that line.
pub on_read : (text : List ℕ) (s : Reader) → ends? text ≡ false → (length (line_in text) ≡ length text) × (read_by s text ≡ grown_by s (line_in text)) × (printed_by s text ≡ [])
unfolding read_by printed_by line_in ends?
on_read [] s e = (refl, rw (append-nil s.begun) refl, refl)
on_read (x ∷ text) s e =
    test (eqb x 10)
    (λ t. absurd (clash refl (rw t at e)))
    (λ f. let r = on_read text (longer s x) (rw f at e) in rw f (ap suc r.0, r.1 ∙ rw (append_assoc s.begun (x ∷ []) (line_in text)) refl, r.2))
