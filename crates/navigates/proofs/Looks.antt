-- Where a row stands to a window, by the ways that the code finds it. Assumes nothing.
use Prim.Native.Nat.{ℕ}
use mathlib.Core.List.{List}
use mathlib.Core.Logic.{◌≢◌}
use mathlib.Core.Path.{◌≡◌, refl, sym, ap, ◌∙◌}
use lib.Dec.{eqb}
use borrow.Author.Tests.{eq-eqb, ne_eqb}
use Rattle.base.specs.declared.RowPlace.{RowPlace}
use Rattle.rules.specs.Rows.{Row, none, frame_at, parent_at, is_doc}
use Rattle.rules.specs.Windows.{root_at}
use Rattle.reads.specs.Found.{found_below}
use Rattle.std.specs.Prelude.{Bool, Option, None, Some}
use Rattle.reads.proofs.Scans.{found_at, found_nothing}
use Rattle.navigates.specs.declared.Side.{Side}
use Rattle.navigates.specs.declared.Side.TheVariants.{Lost}
use Rattle.navigates.specs.Sides.{side_if, doc_side, side_of}

-- By the row that holds the document.
module _ (r : ℕ) (rows : List Row) (k d : ℕ) (f : Option RowPlace) (scan : f ≡ found_below (is_doc rows d) k) where
  pub doc-found : (q : RowPlace) (g : ℕ) (b : Bool) → f ≡ Some q → g ≡ root_at rows q.0 → b ≡ eqb g r → side_if b ≡ doc_side r rows k d
  unfolding doc_side
  doc-found q g b e h t = let a = found_at (is_doc rows d) k q (sym scan ∙ e) in rw (t, a.0, a.1, h) refl

  pub doc-lost : f ≡ None → Lost ≡ doc_side r rows k d
  unfolding doc_side
  doc-lost e = rw (found_nothing (is_doc rows d) k (sym scan ∙ e)) refl

module _ (r : ℕ) (rows : List Row) (k i up : ℕ) (named : up ≡ parent_at rows i) where
  -- A row without a parent.
  pub side-top : up ≡ none → (f : ℕ) (b : Bool) → f ≡ frame_at rows i → b ≡ eqb f r → side_if b ≡ side_of r rows k i
  unfolding side_of
  side-top z f b e t = rw (t, eq-eqb (parent_at rows i) none (sym named ∙ z), e) refl

  module _ (some : up ≡ none → ⊥) where
    -- One beneath a document that was looked at.
    pub side-looked : (s : Side) → s ≡ doc_side r rows k up → s ≡ side_of r rows k i
    unfolding side_of
    side-looked s t = t ∙ rw (ne_eqb (parent_at rows i) none (λ z. some (named ∙ z)), named) refl

    -- One beneath a document that is known.
    pub side-known : (d : ℕ) (s : Side) → (d ≢ none → doc_side r rows k d ≡ s) → up ≡ d → s ≡ side_of r rows k i
    side-known d s h e = side-looked s (sym (h (λ z. some (e ∙ z))) ∙ ap (doc_side r rows k) (sym e))
