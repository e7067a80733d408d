-- S2 to S5 as one record over functions: what a change of the rows has to keep. Assumes nothing.
use Prim.Native.Nat.{ℕ, zero, suc, ◌-◌, ◌≤◌, ◌<◌}
use mathlib.Core.Path.{◌≡◌, sym, ap, ◌∙◌, subst, subst₂, subst₃}
use mathlib.Core.List.{List, [], ◌∷◌, ◌++◌}
use mathlib.Core.Logic.{◌⊎◌, inl, inr, ⊎_elim}
use mathlib.Core.Bool.{Bool, So}
use native.Mathlib.Nat.{not-suc-le-zero}
use native.Mathlib.Omega.{arith}
use lib.ListN.{length}
use borrow.Author.Tests.{eqb-true, eq-eqb}
use Rattle.rules.specs.Below.{count}
use Rattle.rules.specs.Rows.{Row, Table, none, row_at, doc_at, frame_at, parent_at, place, in_frame, with_flags}
use Rattle.rules.specs.Sound.{S1, S2, S6, S7, SoundTable}
use Rattle.rules.specs.Saved.{parent_of}
use Rattle.rules.specs.OldSaved.{S2rising}
use Rattle.laws.proofs.Tests.{by_order, by-lt, below-cases, count-in, least, earliest-is, gather-from}
use Rattle.laws.proofs.Flags.{flags-length, flags-doc, flags-frame, flags-parent}
use Rattle.laws.proofs.Append.{length-snoc, snoc_old, snoc_new}
use Rattle.laws.proofs.Kept.{kept, kept_row}

-- No document stands in two rows.
abbrev pub Once : ℕ → (ℕ → ℕ) → Type 0
Once n doc = (i j : ℕ) → i < n → j < n → doc i ≡ doc j → i ≡ j

-- n rows with these documents, frames and parents, and the next numbers; the next document number is a 32-bit word.
pub record Tree (n : ℕ) (doc frame parent : ℕ → ℕ) (next_doc next_frame : ℕ) : Type 0 where
  pub distinct : Once n doc
  pub below : (i : ℕ) → i < n → doc i < next_doc
  pub word : next_doc ≤ none
  pub framed : (i : ℕ) → i < n → frame i < next_frame
  pub placed : (i : ℕ) → i < n → (parent i ≡ none) ⊎ ((j : ℕ) × (j < i) × (doc j ≡ parent i))
  pub kin : (i j : ℕ) → i < n → j < n → frame i ≡ frame j → parent i ≡ parent j

abbrev pub TreeOf : List Row → ℕ → ℕ → Type 0
TreeOf rows = Tree (length rows) (doc_at rows) (frame_at rows) (parent_at rows)

-- "All rows without a parent are one frame", as those of one window are.
abbrev pub OneRootIn : ℕ → (ℕ → ℕ) → (ℕ → ℕ) → Type 0
OneRootIn n frame parent = (i j : ℕ) → i < n → j < n → parent i ≡ none → parent j ≡ none → frame i ≡ frame j

abbrev pub OneRoot : List Row → Type 0
OneRoot rows = OneRootIn (length rows) (frame_at rows) (parent_at rows)

module _ {n : ℕ} {doc frame parent : ℕ → ℕ} {a b : ℕ} (t : Tree n doc frame parent a b) where
  -- So it is in a tree, and none is no document.
  pub distinct : Once n doc
  distinct = t.distinct

  pub proper : (i : ℕ) → i < n → doc i ≡ none → ⊥
  proper i l e = let c = t.below i l in let d = t.word in omega arith

  -- A parent's row is earlier.
  pub parent-earlier : (j i : ℕ) → j < n → i < n → doc j ≡ parent i → j < i
  parent-earlier j i k l e =
      ⊎_elim (λ z. absurd (proper j k (e ∙ z))) (λ r. let q = distinct r.0 j (omega arith) k (r.2 ∙ sym e) in omega arith) (t.placed i l)

pub place-once : (rows : List Row) → Once (length rows) (doc_at rows) → (i d : ℕ) → i < length rows → doc_at rows i ≡ d → place rows d ≡ i
unfolding place
place-once rows alone i d l e =
    earliest-is _ (length rows) l (eq-eqb _ _ e) (λ m k s. let q = alone m i (omega arith) l (eqb-true _ _ s ∙ sym e) in omega arith)

pub place_is : (rows : List Row) {a b : ℕ} → TreeOf rows a b → (i d : ℕ) → i < length rows → doc_at rows i ≡ d → place rows d ≡ i
place_is rows t = place-once rows (distinct t)

-- "Rows of one frame have one parent": it is the parent of each.
pub parent-of : (rows : List Row) → ((i j : ℕ) → i < length rows → j < length rows → frame_at rows i ≡ frame_at rows j → parent_at rows i ≡ parent_at rows j) →
    (i f : ℕ) → i < length rows → frame_at rows i ≡ f → parent_of rows f ≡ parent_at rows i
unfolding parent_of
parent-of rows kin i f l e =
    let q = least (in_frame rows f) i (eq-eqb _ _ e) in
    let m : q.0 < length rows = omega arith in
    ap (parent_at rows) (earliest-is (in_frame rows f) (length rows) m q.2 q.3) ∙ kin q.0 i m l (eqb-true _ _ q.2 ∙ sym e)

-- OF A SOUND TABLE

-- Numbers that rise from place to place rise from any place to any later one.
pub rising-all : (n : ℕ) (doc : ℕ → ℕ) → ((i : ℕ) → suc i < n → doc i < doc (suc i)) → (j i : ℕ) → i < j → j < n → doc i < doc j
rising-all n doc h zero i l m = absurd (not-suc-le-zero l)
rising-all n doc h (suc j) i l m =
    ⊎_elim (λ e. rw e (h j m)) (λ k. omega (arith, rising-all n doc h j i k (omega arith), h j m)) (below-cases l)

-- Documents that rise are distinct, and below the next number with the last.
pub rising-S2 : (rows : List Row) (next_doc : ℕ) → S2rising rows next_doc → S2 rows next_doc
rising-S2 rows next_doc s =
    let rise = rising-all (length rows) (doc_at rows) s.rise in
    record {
      distinct = λ i j a b e. by_order i j (λ l. absurd (omega (arith, rise j i l b))) (λ q. q) (λ l. absurd (omega (arith, rise i j l a)));
      below = λ i l.
          by-lt i (length rows - 1)
          (λ m. omega (arith, rise (length rows - 1) i m (omega arith), s.last))
          (λ m. let e : i ≡ length rows - 1 = omega arith in rw e s.last);
    }

-- Of words of any size.
pub once-of : {room : ℕ} {t : Table} → SoundTable room t → Once (length t.rows) (doc_at t.rows)
once-of s = s.s2.distinct

pub tree_of : {room : ℕ} {t : Table} → SoundTable room t → t.next_doc ≤ none → TreeOf t.rows t.next_doc t.next_frame
tree_of {t = t} s w =
    let rows = t.rows in
    record {
      distinct = s.s2.distinct;
      below = s.s2.below;
      word = w;
      framed = s.s3.below;
      placed = s.s4.placed;
      kin = s.s5.kin;
    }

pub sound-of : {room : ℕ} {t : Table} → S1 room t.rows → TreeOf t.rows t.next_doc t.next_frame → S6 t.rows → S7 t.rows → SoundTable room t
sound-of {t = t} s1 tree s6 s7 =
    record {
      s1 = s1;
      s2 = record { distinct = tree.distinct; below = tree.below };
      s3 = record { below = tree.framed };
      s4 = record { placed = tree.placed };
      s5 = record { kin = tree.kin };
      s6 = s6;
      s7 = s7;
    }

-- CHANGES THAT KEEP IT

pub tree-flags : (f : ℕ → Bool) (rows : List Row) {a b : ℕ} → TreeOf rows a b → TreeOf (with_flags f rows) a b
tree-flags f rows {a} {b} t =
    subst₂ (λ n doc. Tree n doc (frame_at (with_flags f rows)) (parent_at (with_flags f rows)) a b) (sym (flags-length f rows)) (sym (flags-doc f rows))
    (subst₂ (λ fr par. Tree (length rows) (doc_at rows) fr par a b) (sym (flags-frame f rows)) (sym (flags-parent f rows)) t)

pub one-flags : (f : ℕ → Bool) (rows : List Row) → OneRoot rows → OneRoot (with_flags f rows)
one-flags f rows one = subst₃ OneRootIn (sym (flags-length f rows)) (sym (flags-frame f rows)) (sym (flags-parent f rows)) one

-- The fields of two equal rows.
pub record Alike (l : List Row) (i : ℕ) (m : List Row) (k : ℕ) : Type 0 where
  pub d : doc_at l i ≡ doc_at m k
  pub f : frame_at l i ≡ frame_at m k
  pub p : parent_at l i ≡ parent_at m k

pub alike : {l m : List Row} {i k : ℕ} → row_at l i ≡ row_at m k → Alike l i m k
alike e = record { d = ap (λ x. x.doc) e; f = ap (λ x. x.frame) e; p = ap (λ x. x.parent) e }

-- Rows kept with what is above them.
module _ (keep : ℕ → Bool) (rows : List Row) {a b : ℕ} (t : TreeOf rows a b)
    (up : (j k : ℕ) → j < k → k < length rows → doc_at rows j ≡ parent_at rows k → So (keep k) → So (keep j)) where
  -- A kept row and where it came from.
  pub came : (i : ℕ) → i < length (kept keep rows) → (k : ℕ) × (k < length rows) × So (keep k) × (count keep k ≡ i) × Alike (kept keep rows) i rows k
  came i l = let r = gather-from keep (row_at rows) (length rows) i _ l in (r.0, r.1, r.2, r.3, alike r.4)

  pub tree-kept : TreeOf (kept keep rows) a b
  tree-kept =
      record {
        distinct = λ i j l m e.
            let u = came i l in
            let v = came j m in
            sym u.3 ∙ ap (count keep) (t.distinct u.0 v.0 u.1 v.1 (sym u.4.d ∙ e ∙ v.4.d)) ∙ v.3;
        below = λ i l. let u = came i l in rw u.4.d (t.below u.0 u.1);
        word = t.word;
        framed = λ i l. let u = came i l in rw u.4.f (t.framed u.0 u.1);
        placed = λ i l.
            let u = came i l in
            ⊎_elim (λ e. inl (u.4.p ∙ e)) (λ r.
            let k = up r.0 u.0 r.1 u.1 r.2 u.2 in
            inr (
              count keep r.0,
              subst (λ m. count keep r.0 < m) u.3 (count-in keep u.0 r.1 k),
              ap (λ x. x.doc) (kept_row keep rows r.0 (omega arith) k) ∙ r.2 ∙ sym u.4.p,
            )) (t.placed u.0 u.1);
        kin = λ i j l m e.
            let u = came i l in
            let v = came j m in
            u.4.p ∙ t.kin u.0 v.0 u.1 v.1 (sym u.4.f ∙ e ∙ v.4.f) ∙ sym v.4.p;
      }

  pub one_kept : OneRoot rows → OneRoot (kept keep rows)
  one_kept one i j l m e f =
      let u = came i l in
      let v = came j m in
      u.4.f ∙ one u.0 v.0 u.1 v.1 (sym u.4.p ∙ e) (sym v.4.p ∙ f) ∙ sym v.4.f

-- A row more.
module _ (rows : List Row) (r : Row) where
  abbrev all : List Row
  all = rows ++ r ∷ []

  old : (i : ℕ) → i < length rows → Alike all i rows i
  old i l = alike (snoc_old rows r i l)

  new : (i : ℕ) → i ≡ length rows → Alike all i (r ∷ []) 0
  new i e = alike (ap (row_at all) e ∙ snoc_new rows r)

  by_place {ℓ} : {C : Type ℓ} (i : ℕ) → i < length all → ((l : i < length rows) → Alike all i rows i → C) → (i ≡ length rows → Alike all i (r ∷ []) 0 → C) → C
  by_place i l f g = ⊎_elim (λ e. g e (new i e)) (λ m. f m (old i m)) (below-cases (subst (λ n. i < n) (length-snoc rows r) l))

  -- A root row more is of the root frame.
  pub one-add : OneRoot rows → ((i : ℕ) → i < length rows → parent_at rows i ≡ none → r.parent ≡ none → frame_at rows i ≡ r.frame) → OneRoot all
  one-add one top i j l m h k =
      by_place i l
      (λ x e. by_place j m
      (λ y f. e.f ∙ one i j x y (sym e.p ∙ h) (sym f.p ∙ k) ∙ sym f.f)
      (λ y f. e.f ∙ top i x (sym e.p ∙ h) (sym f.p ∙ k) ∙ sym f.f))
      (λ x e. by_place j m
      (λ y f. e.f ∙ sym (top j y (sym f.p ∙ k) (sym e.p ∙ h)) ∙ sym f.f)
      (λ y f. e.f ∙ sym f.f))

  -- With the next number: of a frame whose rows have its parent, or of a new frame.
  module _ {a b c : ℕ} (t : TreeOf rows a b) (more : b ≤ c) (left : a < none) (named : r.doc ≡ a) (framed : r.frame < c)
      (up : (r.parent ≡ none) ⊎ ((j : ℕ) × (j < length rows) × (doc_at rows j ≡ r.parent)))
      (kin : (i : ℕ) → i < length rows → frame_at rows i ≡ r.frame → parent_at rows i ≡ r.parent) where
    -- The next number is no document yet.
    used : (i : ℕ) → i < length rows → doc_at rows i ≡ r.doc → ⊥
    used i l e = omega (arith, t.below i l)

    pub tree-add : TreeOf all (suc a) c
    tree-add =
        record {
          distinct = λ i j l m h.
              by_place i l
              (λ x e. by_place j m
              (λ y f. t.distinct i j x y (sym e.d ∙ h ∙ f.d))
              (λ y f. absurd (used i x (sym e.d ∙ h ∙ f.d))))
              (λ x e. by_place j m
              (λ y f. absurd (used j y (sym f.d ∙ sym h ∙ e.d)))
              (λ y f. x ∙ sym y));
          below = λ i l. by_place i l (λ x e. rw e.d (let y = t.below i x in omega arith)) (λ x e. rw (e.d, named) (omega arith));
          word = left;
          framed = λ i l. by_place i l (λ x e. rw e.f (let y = t.framed i x in omega arith)) (λ x e. rw e.f framed);
          placed = λ i l.
              by_place i l
              (λ x e. ⊎_elim (λ u. inl (e.p ∙ u)) (λ u. inr (u.0, u.1, (old u.0 (omega arith)).d ∙ u.2 ∙ sym e.p)) (t.placed i x))
              (λ x e. ⊎_elim (λ u. inl (e.p ∙ u)) (λ u. inr (u.0, omega arith, (old u.0 u.1).d ∙ u.2 ∙ sym e.p)) up);
          kin = λ i j l m h.
              by_place i l
              (λ x e. by_place j m
              (λ y f. e.p ∙ t.kin i j x y (sym e.f ∙ h ∙ f.f) ∙ sym f.p)
              (λ y f. e.p ∙ kin i x (sym e.f ∙ h ∙ f.f) ∙ sym f.p))
              (λ x e. by_place j m
              (λ y f. e.p ∙ sym (kin j y (sym f.f ∙ sym h ∙ e.f)) ∙ sym f.p)
              (λ y f. e.p ∙ sym f.p));
        }
