-- Document 02, L4: "Say which document hides it".
use Rattle.std.specs.Prelude.{ℕ, List, [], ◌∷◌, ◌↔◌, ◌⊎◌, ◌≢◌, false, ◌≡◌}
use Rattle.std.proofs.Math.Bool.{So}
use Rattle.rules.specs.Rows.{none, in_record}
use Rattle.rules.specs.Steps.{Hider, climb_of, hider_of, visible}
use Rattle.rules.specs.Words.{rows_of}
use Rattle.rules.specs.Calls.{Call, Answer, outcome}
use Rattle.demands.specs.Refuses.{Nearest, ParentNearest, One}

-- Of a sound record.
pub record HidesRightly (words : List ℕ) : Type 0 where
  -- "The visible question should answer either that the document is visible or the number of the nearest document, itself first and then upwards, that
  -- isn't shown."
  pub asked : (d : ℕ) → So (in_record (rows_of words) d) →
      (((outcome (Call.Visible words d)).answer ≡ Answer.gives (1 ∷ none ∷ (climb_of (rows_of words) d).links ∷ [])) × So (visible (rows_of words) d))
      ⊎ ((h : ℕ) × ((outcome (Call.Visible words d)).answer ≡ Answer.gives (0 ∷ h ∷ (climb_of (rows_of words) d).links ∷ [])) × Nearest (rows_of words) d h)
  -- The climb finds that document,
  pub hider-nearest : (d h : ℕ) → So (in_record (rows_of words) d) → hider_of (rows_of words) d ≡ Hider.document h → Nearest (rows_of words) d h
  -- and nobody exactly when the document is visible.
  pub hider-none : (d : ℕ) → (hider_of (rows_of words) d ≡ Hider.nobody) ↔ So (visible (rows_of words) d)
  -- There is no such document where it is visible, and one where it is there and not visible; never two.
  pub visible-none : (d h : ℕ) → So (visible (rows_of words) d) → Nearest (rows_of words) d h → ⊥
  pub hidden-some : (d : ℕ) → So (in_record (rows_of words) d) → visible (rows_of words) d ≡ false → (h : ℕ) × Nearest (rows_of words) d h
  pub nearest-one : (d h h' : ℕ) → Nearest (rows_of words) d h → Nearest (rows_of words) d h' → h ≡ h'

-- Of any words: "Refusal 5 of opening, navigating and removal carries that number too (for removal, that of the parent's climb)", and that of replacing,
-- whose refusals are "as for navigation" (L7). It carries nothing else, and of every other refusal "a refusal returns its number alone" (document 01) stands.
pub record FiveCarries : Type 0 where
  pub opening : (words : List ℕ) (parent : ℕ) (vs : List ℕ) → (outcome (Call.Open words parent)).answer ≡ Answer.refuses 5 vs → One (Nearest (rows_of words) parent) vs
  pub navigating : (words : List ℕ) (from : ℕ) (vs : List ℕ) → (outcome (Call.Navigate words from)).answer ≡ Answer.refuses 5 vs → One (Nearest (rows_of words) from) vs
  pub removal : (words : List ℕ) (frame : ℕ) (vs : List ℕ) → (outcome (Call.Drop words frame)).answer ≡ Answer.refuses 5 vs → One (ParentNearest words frame) vs
  pub replacing : (words : List ℕ) (d : ℕ) (vs : List ℕ) → (outcome (Call.Replace words d)).answer ≡ Answer.refuses 5 vs → One (Nearest (rows_of words) d) vs
  pub others : (c : Call) (k : ℕ) (vs : List ℕ) → k ≢ 5 → (outcome c).answer ≡ Answer.refuses k vs → vs ≡ []
