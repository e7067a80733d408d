-- What a walk knows of a window. Definitions.
use Rattle.std.specs.Prelude.{ℕ, ◌<◌, Bool, false, cond, List, ◌≢◌, ◌≡◌, length}
use Rattle.std.proofs.Math.Bool.{So}
use Rattle.base.specs.declared.DocNo.{DocNo}
use Rattle.rules.specs.Rows.{Row, none, parent_at}
use Rattle.rules.specs.Windows.{root_at, in_window}
use Rattle.members.specs.declared.Known.{Known}
use Rattle.members.specs.declared.Member.{Member}

abbrev pub nothing : Known
nothing = record { within = record { 0 = none }; outside = record { 0 = none } }

-- With one document more, of whose rows it was found that they are of the window or not.
abbrev pub learned : Known → DocNo → Bool → Known
learned known d inside = cond inside (record { within = d; outside = known.outside }) (record { within = known.within; outside = d })

-- Rows beneath one document are of one window.
abbrev pub Kin : List Row → Type 0
Kin rows = (i j : ℕ) → i < length rows → j < length rows → parent_at rows i ≡ parent_at rows j → parent_at rows i ≢ none → root_at rows i ≡ root_at rows j

-- The rows beneath these two documents are of window r, and are not.
pub record Recalls (r : ℕ) (rows : List Row) (known : Known) : Type 0 where
  pub kin : Kin rows
  pub within-is : (i : ℕ) → i < length rows → parent_at rows i ≢ none → parent_at rows i ≡ known.within.0 → So (in_window r rows i)
  pub outside-is : (i : ℕ) → i < length rows → parent_at rows i ≢ none → parent_at rows i ≡ known.outside.0 → in_window r rows i ≡ false

-- Whether row i is of window r, and what is known then.
pub record Sided (r : ℕ) (rows : List Row) (i : ℕ) (m : Member) : Type 0 where
  pub inside_is : m.inside ≡ in_window r rows i
  pub recalls : Recalls r rows m.known
