-- A line that is answered, and one that goes on. Assumes nothing.
use Prim.Native.Nat.{ℕ, ◌+◌, ◌≤◌, ◌<◌, min}
use mathlib.Core.Bool.{true, false}
use mathlib.Core.List.{List, [], ◌∷◌}
use mathlib.Core.Path.{◌≡◌, refl, sym, ap, ◌∙◌, subst}
use native.Mathlib.Omega.{arith}
use lib.ListN.{length, take, length-take}
use lib.Seq.{take_all}
use Rattle.laws.proofs.Tests.{clash, by-lt}
use Rattle.laws.specs.Writes.{Wrote}
use Rattle.lines.specs.Reply.{Said, answer_text}
use Rattle.turns.specs.Turns.{turned}
use Rattle.texts.specs.Feeds.{Answered, Settled, LastAnswered, Finishes}
use Rattle.texts.specs.Texts.{unended}
use Rattle.texts.specs.declared.Cut.{Cut}
use Rattle.std.specs.Prelude.{Some}

-- As many bytes as there are of a line are all of it.
take-least : (line : List ℕ) (kept n : ℕ) → n ≡ min kept (length line) → take n line ≡ take kept line
take-least line kept n e =
    by-lt (length line) kept
    (λ l. take_all n line (omega arith) ∙ sym (take_all kept line (omega arith)))
    (λ l. let f : n ≡ kept = omega arith in ap (λ k. take k line) f)

-- What the turn left, and the text that was written of what it said.
pub answered : (words changes line out : List ℕ) (used : ℕ) (said : Said) (words' changes' out' : List ℕ) (r : ℕ) →
    turned words changes line ≡ record { said = said; words = words'; changes = changes' } → Wrote out used (answer_text said) out' r → r ≤ used + 67 →
    Answered words changes line out used words' changes' out' r
answered words changes line out used said words' changes' out' r e w short =
    record {
      words_are = sym (ap (λ t. t.words) e);
      changes-are = sym (ap (λ t. t.changes) e);
      text-is = subst (λ (s : Said). Wrote out used (answer_text s) out' r) (sym (ap (λ t. t.said) e)) w;
      short = short;
    }

-- A line that has not ended goes on, and nothing changes.
pub settled_on : (c : Cut) (words changes line out : List ℕ) (used : ℕ) → c.ended ≡ false → Settled c words changes line out used words changes out (record { kept = c.kept; used = used })
settled_on c words changes line out used f = record { on = λ e. (refl, refl, refl, refl); ended = λ t. absurd (clash t f) }

-- A line that has ended is answered.
pub settled-ended : (c : Cut) (words changes line out : List ℕ) (used n : ℕ) (words' changes' out' : List ℕ) (r : ℕ) → c.ended ≡ true → n ≡ min c.kept (length line) →
    Answered words changes (take n line) out used words' changes' out' r → Settled c words changes line out used words' changes' out' (record { kept = 0; used = r })
settled-ended c words changes line out used n words' changes' out' r t e a =
    record { on = λ f. absurd (clash t f); ended = λ t. (subst (λ l. Answered words changes l out used words' changes' out' r) (take-least line c.kept n e) a, refl) }

-- THE END OF A TEXT

module _ (words changes line : List ℕ) (kept : ℕ) (out : List ℕ) (n : ℕ) (least : n ≡ min kept (length line)) where
  -- No line has begun.
  pub finished-none : n ≡ 0 → 67 ≤ length out → Finishes words changes line kept out (Some 0) words changes out
  finished-none z room =
      let e : take kept line ≡ [] = sym (take-least line kept n least) ∙ ap (λ k. take k line) z in
      (subst (λ l. LastAnswered (unended l) words changes out words changes out 0) (sym e) (refl, refl, refl, refl), room)

  -- A line has begun, and is answered.
  pub finished-last : (n ≡ 0 → ⊥) → 67 ≤ length out → (words' changes' out' : List ℕ) (r : ℕ) → Answered words changes (take n line) out 0 words' changes' out' r →
      Finishes words changes line kept out (Some r) words' changes' out'
  finished-last some room words' changes' out' r a =
      let e = take-least line kept n least in
      let l : 0 < length (take kept line) = omega (arith, ap length e, length-take n line, not-zero n some) in
      (last_some (take kept line) l (subst (λ t. Answered words changes t out 0 words' changes' out' r) e a), room)
    where
      not-zero : (n : ℕ) → (n ≡ 0 → ⊥) → 0 < n
      not-zero n h = by-lt 0 n (λ l. l) (λ l. absurd (h (omega arith)))

      last_some : (l : List ℕ) → 0 < length l → Answered words changes l out 0 words' changes' out' r → LastAnswered (unended l) words changes out words' changes' out' r
      last_some [] z a = absurd (omega arith)
      last_some (b ∷ l) z a = a
