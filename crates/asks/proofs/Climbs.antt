-- The climb, by the ways that it goes. Assumes nothing.
use Prim.Native.Nat.{ℕ, ◌+◌, ◌/◌, ◌%◌, ◌≤◌, ◌<◌}
use mathlib.Core.Bool.{Bool, true, false, not}
use mathlib.Core.List.{List}
use mathlib.Core.Path.{◌≡◌, refl, sym, ap, subst, ◌∙◌}
use native.Mathlib.Omega.{arith}
use lib.Dec.{eqb, ltb}
use lib.ListN.{length, get_or-eq_default}
use borrow.Author.Tests.{ne_eqb, lt-ltb, le-ltb}
use Rattle.base.specs.declared.RowPlace.{RowPlace}
use Rattle.base.specs.declared.Refusal.TheVariants.{Absent}
use Rattle.rules.specs.Rows.{Row, no_row, none, row_at, doc_at, parent_at, is_shown, is_doc, in_record, climb}
use Rattle.rules.specs.Steps.{Hider, is_nobody, Climb, ended, further, climb_ask, lost, climb_at, climb_of, hider_at, hider_of, visible_at}
use Rattle.rules.specs.Words.{capacity, rows_of}
use Rattle.laws.proofs.Tests.{test}
use Rattle.laws.proofs.Climb.{climbs-itself, climbs-nobody, links-at}
use Rattle.reads.specs.Found.{found_below}
use Rattle.std.specs.Prelude.{Option, None, Some, Result, Ok, Err}
use Rattle.reads.specs.Within.{Within}
use Rattle.reads.proofs.Climbs.{climb-at, climb-lost}
use Rattle.reads.proofs.Scans.{found_at, found-lower, found_nothing}
use Rattle.rows.specs.Readable.{readable_rows}
use Rattle.rows.proofs.Readable.{readable-rows, readable-within}
use Rattle.asks.specs.Answers.{hider_is, hider_doc, hider_by, Means, Coded, sight_of, SightIs}
use Rattle.asks.specs.declared.Sight.{Sight}
use Rattle.base.specs.declared.DocNo.{DocNo}
use Rattle.base.specs.declared.Refusal.{Refusal}

module _ (rows : List Row) (k : ℕ) (s : Bool) (shown : s ≡ is_shown rows k) where
  pub hidden-ends : s ≡ false → climb_at rows k ≡ ended (Hider.document (doc_at rows k))
  hidden-ends f = climbs-itself rows k (sym shown ∙ f)

  module _ (up : ℕ) (t : s ≡ true) (named : up ≡ parent_at rows k) where
    pub root_ends : up ≡ none → climb_at rows k ≡ ended Hider.nobody
    root_ends e = climbs-nobody rows k (sym shown ∙ t) (sym named ∙ e)

    module _ (f : Option RowPlace) (ne : up ≡ none → ⊥) (scan : f ≡ found_below (is_doc rows up) k) where
      goes-up : climb_at rows k ≡ further (climb lost (climb_ask rows) rows k up)
      unfolding climb_at
      goes-up = rw (sym shown ∙ t, ne_eqb (parent_at rows k) none (λ z. ne (named ∙ z))) (ap (λ d. further (climb lost (climb_ask rows) rows k d)) (sym named))

      pub climb-goes : (q : RowPlace) → f ≡ Some q → climb_at rows k ≡ further (climb_at rows q.0)
      unfolding climb_at
      climb-goes q g = goes-up ∙ ap further (climb-at lost (climb_ask rows) rows k up q (sym scan ∙ g))

      pub lost-ends : f ≡ None → climb_at rows k ≡ further lost
      lost-ends g = goes-up ∙ ap further (climb-lost lost (climb_ask rows) rows k up (sym scan ∙ g))

-- The number of a climb that ends with a document, or with nobody, and of one a link further.
ends_with : (h : Hider) (code : ℕ) → code < 8589934592 → Means h code → Coded (ended h) code
ends_with h code l m =
    let z : code % 8589934592 ≡ code = omega arith in
    record { far = omega arith; who = subst (Means h) (sym z) m }

ends-document : (d code : ℕ) → code ≡ d → code < 4294967296 → Coded (ended (Hider.document d)) code
ends-document d code e l = ends_with (Hider.document d) code (omega arith) (e, l)

goes_further : (c : Climb) (code : ℕ) → Coded c code → Coded (further c) (8589934592 + code)
goes_further c code e =
    let z : (8589934592 + code) % 8589934592 ≡ code % 8589934592 = omega arith in
    record { far = omega (arith, e.far); who = subst (Means c.hider) (sym z) e.who }

module _ (c : Climb) where
  pub coded-document : (d code : ℕ) → c ≡ ended (Hider.document d) → code ≡ d → code < 4294967296 → Coded c code
  coded-document d code e g l = subst (λ x. Coded x code) (sym e) (ends-document d code g l)

  pub coded-nobody : c ≡ ended Hider.nobody → Coded c 4294967296
  coded-nobody e = subst (λ x. Coded x 4294967296) (sym e) (ends_with Hider.nobody 4294967296 (omega arith) refl)

  pub coded-further : (g : Climb) (code : ℕ) → c ≡ further g → Coded g code → Coded c (8589934592 + code)
  coded-further g code e h = subst (λ x. Coded x (8589934592 + code)) (sym e) (goes_further g code h)

  pub coded-lost : (code : ℕ) → c ≡ further lost → code ≡ none → code < 4294967296 → Coded c (8589934592 + code)
  coded-lost code e g l = coded-further lost code e (ends-document none code g l)

-- One link more can be counted, since there are few rows.
pub link_fits : (words : List ℕ) (i code : ℕ) → Within words i → Coded (climb_at (rows_of words) i) code → 8589934592 + code < 8804682956800
unfolding climb_at
link_fits words i code w c = omega (arith, c.far, links-at (rows_of words) i, w.fits, w.below)

-- Who is meant.
means_is : (h : Hider) (code : ℕ) → Means h code → hider_by code ≡ h
means_is Hider.nobody code m = rw m refl
means_is (Hider.document d) code m = rw (lt-ltb code 4294967296 m.1) (ap Hider.document m.0)

pub means-document : (code m : ℕ) → m ≡ code → code < 4294967296 → Hider.document m ≡ hider_by code
means-document code m e l = rw (lt-ltb code 4294967296 l, e) refl

pub means-nobody : (code : ℕ) → 4294967296 ≤ code → Hider.nobody ≡ hider_by code
means-nobody code l = rw (le-ltb code 4294967296 l) refl

-- Past the rows that can be read, and among them.
module _ (words : List ℕ) (n i : ℕ) (count : n ≡ length (readable_rows words)) where
  pub climbed-past : n ≤ i → Coded (climb_at (readable_rows words) i) 0
  climbed-past l =
      let nothing : row_at (readable_rows words) i ≡ no_row = get_or-eq_default (readable_rows words) no_row (omega arith) in
      coded-document _ 0 0 (climbs-itself (readable_rows words) i (ap (λ r. eqb r.shown 1) nothing) ∙ ap (λ (r : Row). ended (Hider.document r.doc)) nothing) refl (omega arith)

  pub climbed-within : (code : ℕ) → i < n → Coded (climb_at (rows_of words) i) code → Coded (climb_at (readable_rows words) i) code
  climbed-within code l c = subst (λ rows. Coded (climb_at rows i) code) (sym (readable-rows words (readable-within words i (omega arith)).fits)) c

pub hiding-is : (rows : List Row) (i code : ℕ) (h : Hider) → Coded (climb_at rows i) code → h ≡ hider_by (code % 8589934592) → h ≡ hider_at rows i
unfolding hider_at
hiding-is rows i code h c e = e ∙ means_is (climb_at rows i).hider (code % 8589934592) c.who

pub nobody-told : (code : ℕ) → not (ltb code 4294967296) ≡ is_nobody (hider_by code)
nobody-told code = test (ltb code 4294967296) (λ t. rw t refl) (λ f. rw f refl)

-- By who hides it.
pub climb-by : (rows : List Row) (i : ℕ) (h : Hider) → h ≡ hider_at rows i → is_nobody h ≡ visible_at rows i
unfolding visible_at
climb-by rows i h e = ap is_nobody e

-- Who hides, in either words.
doc-is : (h : Option DocNo) → hider_doc (hider_is h) ≡ h
doc-is None = refl
doc-is (Some d) = refl

is-doc : (h : Hider) → hider_is (hider_doc h) ≡ h
is-doc Hider.nobody = refl
is-doc (Hider.document d) = refl

-- A document, where the scan for it ended.
module _ (words : List ℕ) (d : ℕ) (f : Option RowPlace) (scan : f ≡ found_below (is_doc (readable_rows words) d) (length (readable_rows words))) where
  pub seen-absent : f ≡ None → Err Absent ≡ sight_of (readable_rows words) d
  unfolding sight_of in_record
  seen-absent e = rw (found_nothing (is_doc (readable_rows words) d) (length (readable_rows words)) (sym scan ∙ e)) refl

  module _ (q : RowPlace) (e : f ≡ Some q) where
    here : in_record (readable_rows words) d ≡ true
    unfolding in_record
    here = (found_at (is_doc (readable_rows words) d) (length (readable_rows words)) q (sym scan ∙ e)).0

    there : climb_of (readable_rows words) d ≡ climb_at (readable_rows words) q.0
    unfolding climb_of climb_at
    there = climb-at lost (climb_ask (readable_rows words)) (readable_rows words) (length (readable_rows words)) d q (sym scan ∙ e)

    lower : q.0 < length (readable_rows words)
    lower = found-lower (is_doc (readable_rows words) d) (length (readable_rows words)) q (sym scan ∙ e)

    pub found_within : Within words q.0
    found_within = readable-within words q.0 lower

    pub seen_by : (code : ℕ) (h : Option DocNo) (n : ℕ) → Coded (climb_at (rows_of words) q.0) code → hider_is h ≡ hider_by (code % 8589934592) → n ≡ code / 8589934592 →
        Ok (record { hider = h; links = n }) ≡ sight_of (readable_rows words) d
    unfolding sight_of hider_of hider_at
    seen_by code h n read g far =
        let c = climbed-within words (length (readable_rows words)) q.0 refl code lower read in
        let who : (climb_of (readable_rows words) d).hider ≡ hider_is h = ap (λ x. x.hider) there ∙ sym (hiding-is (readable_rows words) q.0 code (hider_is h) c g) in
        let links : (climb_of (readable_rows words) d).links ≡ n = ap (λ x. x.links) there ∙ sym c.far ∙ sym far in
        rw (here, who, links, doc-is h) refl

-- What is seen of a record that has room for its rows.
pub seen-is : (words : List ℕ) (d : ℕ) → length (rows_of words) ≤ capacity words → (s : Result Sight Refusal) → s ≡ sight_of (readable_rows words) d → SightIs (rows_of words) d s
unfolding sight_of
seen-is words d l s e =
    let rows = rows_of words in
    subst (SightIs rows d) (sym (e ∙ ap (λ rows. sight_of rows d) (readable-rows words l)))
    (test (in_record rows d) (λ h. rw h (h, sym (is-doc (hider_of rows d)), refl)) (λ h. rw h (h, refl)))
