-- What a walk knows of a window at its start, and after a row. Assumes nothing.
use Prim.Native.Nat.{ℕ, ◌<◌}
use mathlib.Core.Bool.{Bool, true, false}
use mathlib.Core.List.{List}
use mathlib.Core.Logic.{◌≢◌}
use mathlib.Core.Path.{◌≡◌, sym, ap, ◌∙◌}
use lib.Dec.{eqb}
use lib.ListN.{length}
use borrow.Author.Tests.{eq-eqb}
use Rattle.base.specs.declared.DocNo.{DocNo}
use Rattle.rules.specs.Rows.{Row, none, frame_at, parent_at}
use Rattle.rules.specs.Windows.{root_at, in_window}
use Rattle.laws.proofs.Tests.{test}
use Rattle.windows.proofs.Roots.{root-top}
use Rattle.members.specs.Members.{Kin, Recalls, Sided, nothing, learned}
use Rattle.members.specs.declared.Known.{Known}

pub nothing-recalled : (rows : List Row) → Kin rows → (r : ℕ) → Recalls r rows nothing
nothing-recalled rows kin r = record { kin = kin; within-is = λ i l up e. absurd (up e); outside-is = λ i l up e. absurd (up e) }

-- The rows beneath row i's parent are of its window.
pub beneath-recalled : (rows : List Row) → Kin rows → (i : ℕ) → i < length rows → (known : Known) → known.within.0 ≡ parent_at rows i → known.outside.0 ≡ none → Recalls (root_at rows i) rows known
beneath-recalled rows kin i l known w o =
    record { kin = kin; within-is = λ j m up e. eq-eqb _ _ (kin j i m l (e ∙ w) up); outside-is = λ j m up e. absurd (up (e ∙ o)) }

module _ (rows : List Row) (r i : ℕ) (l : i < length rows) (known : Known) (w : Recalls r rows known) (up : ℕ) (up_is : up ≡ parent_at rows i) where
  -- Without a parent the frame tells.
  pub member-top : (f : ℕ) (inside : Bool) → up ≡ none → f ≡ frame_at rows i → inside ≡ eqb f r → Sided r rows i (record { inside = inside; known = known })
  member-top f inside z e g = record { inside_is = g ∙ ap (λ x. eqb x r) (e ∙ sym (root-top rows i (sym up_is ∙ z))); recalls = w }

  module _ (there : up ≢ none) where
    beneath : parent_at rows i ≢ none
    beneath z = there (up_is ∙ z)

    pub member-within : up ≡ known.within.0 → Sided r rows i (record { inside = true; known = known })
    member-within e = record { inside_is = sym (w.within-is i l beneath (sym up_is ∙ e)); recalls = w }

    pub member-outside : up ≡ known.outside.0 → Sided r rows i (record { inside = false; known = known })
    member-outside e = record { inside_is = sym (w.outside-is i l beneath (sym up_is ∙ e)); recalls = w }

    -- What was found of row i holds of all rows beneath its parent.
    alike : (j : ℕ) → j < length rows → parent_at rows j ≡ up → in_window r rows j ≡ in_window r rows i
    alike j m e = ap (λ x. eqb x r) (w.kin j i m l (e ∙ up_is) (λ z. there (sym e ∙ z)))

    pub member-climbed : (d : DocNo) (f : ℕ) (k : Known) → d.0 ≡ up → f ≡ root_at rows i → k ≡ learned known d (eqb f r) → Sided r rows i (record { inside = eqb f r; known = k })
    member-climbed d f k de fe ke =
        let is : eqb f r ≡ in_window r rows i = ap (λ x. eqb x r) fe in
        record {
          inside_is = is;
          recalls =
              rw ke (test (eqb f r)
              (λ t. rw t (record { kin = w.kin; within-is = λ j m b e. alike j m (e ∙ de) ∙ sym is ∙ t; outside-is = w.outside-is }))
              (λ t. rw t (record { kin = w.kin; within-is = w.within-is; outside-is = λ j m b e. alike j m (e ∙ de) ∙ sym is ∙ t })));
        }
