-- From what a call answers to what a host sees. Assumes nothing.
use Prim.Native.Nat.{ℕ}
use mathlib.Core.List.{List, [], ◌∷◌}
use mathlib.Core.Path.{◌≡◌, refl, ap, ap₂, sym, ◌∙◌}
use lib.Ieee.{Float}
use Rattle.base.specs.declared.Refusal.{Refusal}
use Rattle.std.specs.Prelude.{Result, Ok, Err}
use Rattle.base.specs.declared.DocNo.{DocNo}
use Rattle.base.specs.Answers.{answered}
use Rattle.base.specs.Numbers.{number_of}
use Rattle.contents.specs.declared.Told.{Told as Contents}
use Rattle.contents.specs.Answers.{told_is}
use Rattle.places.specs.Answers.{placed_is}
use Rattle.rules.specs.Words.{put}
use Rattle.rules.specs.Calls.{Call, Answer, outcome}
use Rattle.points.specs.declared.Point.{Point}
use Rattle.points.specs.declared.Place.{Place}
use Rattle.points.specs.declared.Place.TheVariants.{Itself, At}
use Rattle.frame_history.specs.Face.{shown, face, carried_or, hiding_in, hiding_face, face_over, ToldCount, ToldDone, ToldDocument, ToldContents, place_outs, ToldPlace}

module _ (c : Call) (a : Answer) (runs : List (List ℕ)) (olds : List ℕ) (e : outcome c ≡ record { answer = a; lent = runs }) where
  -- Values are given: the host sees 0 and them.
  pub face-gives : (values : List ℕ) → a ≡ Answer.gives values → face (outcome c) olds ≡ record { number = 0; outs = values; lent = runs }
  face-gives values g = ap (λ o. face o olds) e ∙ ap (λ x. shown x olds runs) g

  -- A refusal: the host sees its number, and the out words as they were.
  pub face-refuses : (k : ℕ) (vs : List ℕ) (r : ℕ) → a ≡ Answer.refuses k vs → r ≡ k → face (outcome c) olds ≡ record { number = r; outs = olds; lent = runs }
  face-refuses k vs r g n = ap (λ o. face o olds) e ∙ ap (λ x. shown x olds runs) (g ∙ ap (λ m. Answer.refuses m vs) (sym n))

  -- The same with the out word for what a refusal carries: kept where values are given, and written where something is carried.
  module _ (old : ℕ) where
    pub hiding-gives : (values : List ℕ) → a ≡ Answer.gives values →
        hiding_face (outcome c) olds old ≡ record { seen = record { number = 0; outs = values; lent = runs }; hiding = old }
    hiding-gives values g = ap (λ o. hiding_face o olds old) e ∙ ap (λ x. record { seen = shown x olds runs; hiding = hiding_in x old }) g

    pub hiding-refuses : (k : ℕ) (vs : List ℕ) (r new : ℕ) → a ≡ Answer.refuses k vs → (r ≡ k) × (new ≡ carried_or vs old) →
        hiding_face (outcome c) olds old ≡ record { seen = record { number = r; outs = olds; lent = runs }; hiding = new }
    hiding-refuses k vs r new g h =
        ap (λ o. hiding_face o olds old) e ∙ ap (λ x. record { seen = shown x olds runs; hiding = hiding_in x old }) g
        ∙ ap₂ (λ n m. record { seen = record { number = n; outs = olds; lent = runs }; hiding = m }) (sym h.0) (sym h.1)

-- AN ANSWER TOLD

module _ (c : Call) (runs : List (List ℕ)) (r : ℕ) where
  pub face-count : (answer : Result ℕ Refusal) (old new : ℕ) → outcome c ≡ record { answer = answered (λ n. n ∷ []) answer; lent = runs } → ToldCount answer old new r →
      face (outcome c) (old ∷ []) ≡ record { number = r; outs = new ∷ []; lent = runs }
  face-count answer old new e t = ap (λ o. face o (old ∷ [])) e ∙ t runs

  pub face-done : (answer : Result (Unit {0}) Refusal) → outcome c ≡ record { answer = answered (λ _. []) answer; lent = runs } → ToldDone answer r →
      face (outcome c) [] ≡ record { number = r; outs = []; lent = runs }
  face-done answer e t = ap (λ o. face o []) e ∙ t runs

  pub face-document : (answer : Result DocNo Refusal) (old carried new carried' : ℕ) → outcome c ≡ record { answer = answered (λ d. d.0 ∷ []) answer; lent = runs } → ToldDocument answer old carried new carried' r →
      hiding_face (outcome c) (old ∷ []) carried ≡ record { seen = record { number = r; outs = new ∷ []; lent = runs }; hiding = carried' }
  face-document answer old carried new carried' e t = ap (λ o. hiding_face o (old ∷ []) carried) e ∙ t runs

  pub face-contents : (answer : Result Contents Refusal) (p s p' s' : ℕ) → outcome c ≡ record { answer = told_is answer; lent = runs } → ToldContents answer p s p' s' r →
      face (outcome c) (p ∷ s ∷ []) ≡ record { number = r; outs = p' ∷ s' ∷ []; lent = runs }
  face-contents answer p s p' s' e t = ap (λ o. face o (p ∷ s ∷ [])) e ∙ t runs

  pub face-place : (answer : Result Place Refusal) (olds news : List ℕ) → outcome c ≡ record { answer = placed_is answer; lent = runs } → ToldPlace answer olds news r →
      face_over (outcome c) olds ≡ record { number = r; outs = news; lent = runs }
  face-place answer olds news e t = ap (λ o. face_over o olds) e ∙ t runs

-- A PLACE TOLD

module _ (a : Result Place Refusal) (k : ℕ) (x y : Float) where
  pub place-refused : (r : Refusal) (n : ℕ) → a ≡ Err r → n ≡ number_of r → ToldPlace a (place_outs k x y) (place_outs k x y) n
  place-refused r n e f runs = rw (e, f) refl

  module _ (place : Place) (e : a ≡ Ok place) where
    pub place-itself : place ≡ Itself → ToldPlace a (place_outs k x y) (place_outs 0 x y) 0
    unfolding put
    place-itself f runs = rw (e, f) refl

    pub place-point : (p : Point) → place ≡ At p → ToldPlace a (place_outs k x y) (place_outs 1 p.x p.y) 0
    unfolding put
    place-point p f runs = rw (e, f) refl
