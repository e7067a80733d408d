-- Climbs by the ways that they go, and the one to the root frame. Assumes nothing.
use Prim.Native.Nat.{ℕ}
use mathlib.Core.List.{List}
use mathlib.Core.Logic.{◌≢◌}
use mathlib.Core.Path.{◌≡◌, refl, sym, ap, ◌∙◌}
use lib.Dec.{eqb}
use borrow.Author.Tests.{eq-eqb, ne_eqb, eqb-true}
use Rattle.base.specs.declared.RowPlace.{RowPlace}
use Rattle.rules.specs.Rows.{Row, none, frame_at, parent_at, is_doc, climb}
use Rattle.laws.proofs.Tests.{clash, some_in, some_out, greatest, latest-is}
use Rattle.laws.proofs.Climb.{climb-none, climb-found}
use Rattle.reads.specs.Found.{found_below}
use Rattle.std.specs.Prelude.{Option, None, Some}
use Rattle.reads.proofs.Scans.{found_at, found_nothing}
use Rattle.rules.specs.Windows.{root_ask, root_at}

-- Where the scan for a document ended, the question goes on.
module _ {A : Type 0} (lost : A) (ask : (ℕ → A) → ℕ → A) (rows : List Row) (k d : ℕ) where
  pub climb-at : (q : RowPlace) → found_below (is_doc rows d) k ≡ Some q → climb lost ask rows k d ≡ ask (climb lost ask rows q.0) q.0
  climb-at q e =
      let r = found_at (is_doc rows d) k q e in
      let o = some_out (is_doc rows d) k r.0 in
      let g = greatest (is_doc rows d) k o.1 o.2 in
      let same : g.0 ≡ q.0 = sym (latest-is (is_doc rows d) k g.2 g.3 g.4) ∙ r.1 in
      climb-found lost ask rows k d g.2 (eqb-true _ _ g.3) (λ m a b h. g.4 m a b (eq-eqb _ _ h)) ∙ ap (λ j. ask (climb lost ask rows j) j) same

  pub climb-lost : found_below (is_doc rows d) k ≡ None → climb lost ask rows k d ≡ lost
  climb-lost e = climb-none lost ask rows k d (λ j l h. clash (some_in (is_doc rows d) k l (eq-eqb _ _ h)) (found_nothing (is_doc rows d) k e))

module _ (rows : List Row) (k up : ℕ) (named : up ≡ parent_at rows k) where
  pub root_ends : up ≡ none → root_at rows k ≡ frame_at rows k
  unfolding root_at
  root_ends e = rw (eq-eqb (parent_at rows k) none (sym named ∙ e)) refl

  goes-up : up ≢ none → root_at rows k ≡ climb none (root_ask rows) rows k up
  unfolding root_at
  goes-up ne = rw (ne_eqb (parent_at rows k) none (λ z. ne (named ∙ z))) (ap (climb none (root_ask rows) rows k) (sym named))

  pub root-goes : (f : Option RowPlace) (q : RowPlace) → up ≢ none → f ≡ found_below (is_doc rows up) k → f ≡ Some q → root_at rows k ≡ root_at rows q.0
  unfolding root_at
  root-goes f q ne e g = goes-up ne ∙ climb-at none (root_ask rows) rows k up q (sym e ∙ g)

  pub root-lost : (f : Option RowPlace) → up ≢ none → f ≡ found_below (is_doc rows up) k → f ≡ None → root_at rows k ≡ none
  root-lost f ne e g = goes-up ne ∙ climb-lost none (root_ask rows) rows k up (sym e ∙ g)

-- Equal numbers pass alike.
pub alike-test : (a b r : ℕ) → a ≡ b → eqb a r ≡ eqb b r
alike-test a b r e = ap (λ x. eqb x r) e
