-- The old form: Save, then Load, as they were, of a table whose documents rise; and the bytes that its loading call takes. Assumes nothing.
use Prim.Native.Nat.{ℕ, zero, suc, ◌+◌, ◌-◌, ◌*◌, ◌≤◌, ◌<◌}
use mathlib.Core.Bool.{false, So}
use mathlib.Core.List.{List}
use mathlib.Core.Logic.{◌↔◌}
use mathlib.Core.Path.{◌≡◌, sym, ap, subst, ◌∙◌}
use native.Mathlib.Omega.{arith}
use lib.ListN.{length}
use borrow.Author.Tests.{eqb-true, eq-eqb}
use Rattle.rules.specs.Below.{count, gather}
use Rattle.rules.specs.Rows.{Row, Table, no_row, row_at, doc_at, is_doc, in_record, place}
use Rattle.rules.specs.Moves.{frames}
use Rattle.rules.specs.Sound.{SoundTable}
use Rattle.rules.specs.Saved.{docs_of, number_at, documents_in, entries_in, document_at, told_rows}
use Rattle.rules.specs.OldSaved.{old_saved, old_loaded, S2rising, OldTable, from_old_save?}
use Rattle.laws.proofs.Tests.{off, by-lt, some_in, some_out, count-zero, count_yes, count-flat, least, earliest-is, gather-is}
use Rattle.laws.proofs.Tree.{rising-all}
use Rattle.laws.proofs.Reflect.{ref-and, old-table-is}
use Rattle.laws.proofs.Numbers.{old_form, length-saved, read_count, read-next-doc, read-next-frame, read-documents, read-body}
use Rattle.laws.proofs.Told.{length-told}
use Rattle.laws.proofs.Trips.{table_is, all-documents, some-documents, frames-some, told-total, frame-place, doc-place, entry_of, frame_below, doc-below, gathered-at, told-to, told-from}
use Rattle.laws.proofs.Loads.{same-list-is, Sizes, saved-sizes}

-- IN THE ORDER OF THEIR DOCUMENTS

-- Rows whose documents rise, and the same rows in another order, perhaps repeated.
module _ (rows other : List Row) (next_doc : ℕ) (s2 : S2rising rows next_doc) (some : 1 ≤ length rows)
    (from : (p : ℕ) → p < length other → (i : ℕ) × (i < length rows) × (row_at other p ≡ row_at rows i))
    (to : (i : ℕ) → i < length rows → (p : ℕ) × (p < length other) × (row_at other p ≡ row_at rows i)) where
  there : (i : ℕ) → i < length rows → So (in_record other (doc_at rows i))
  unfolding in_record
  there i l = let p = to i l in some_in (is_doc other (doc_at rows i)) (length other) p.1 (eq-eqb _ _ (ap (λ r. r.doc) p.2))

  -- A number between the documents of rows i - 1 and i.
  gap : (i d : ℕ) → ((k : ℕ) → k < i → k < length rows → doc_at rows k < d) → ((k : ℕ) → i ≤ k → k < length rows → d < doc_at rows k) → in_record other d ≡ false
  unfolding in_record
  gap i d low high =
      off _ (λ h.
      let p = some_out (is_doc other d) (length other) h in
      let k = from p.0 p.1 in
      let e : doc_at rows k.0 ≡ d = ap (λ r. r.doc) (sym k.2) ∙ eqb-true _ _ p.2 in
      by-lt k.0 i (λ l. omega (arith, low k.0 l k.1)) (λ l. omega (arith, high k.0 l k.1)))

  up : (i k : ℕ) → i ≤ k → k < length rows → doc_at rows i ≤ doc_at rows k
  up i k l m = by-lt i k (λ a. omega (arith, rising-all (length rows) (doc_at rows) s2.rise k i a m)) (λ a. let e : i ≡ k = omega arith in rw e (omega arith))

  -- So many documents stand before that of row i, and in all.
  counted : (i : ℕ) → i < length rows → count (in_record other) (doc_at rows i) ≡ i
  counted zero l =
      count-flat (in_record other) (doc_at rows 0) {i = 0} (omega arith) (λ d a b. gap 0 d (λ k c e. absurd (omega arith)) (λ k c e. omega (arith, up 0 k c e)))
      ∙ count-zero (in_record other)
  counted (suc i) l =
      count-flat (in_record other) (doc_at rows (suc i)) {i = suc (doc_at rows i)} (s2.rise i l)
      (λ d a b. gap (suc i) d (λ k c e. omega (arith, up k i (omega arith) (omega arith))) (λ k c e. omega (arith, up (suc i) k c e)))
      ∙ count_yes (in_record other) (doc_at rows i) (there i (omega arith)) ∙ ap suc (counted i (omega arith))

  all-counted : count (in_record other) next_doc ≡ length rows
  all-counted =
      let m = length rows - 1 in
      let e : suc m ≡ length rows = omega arith in
      count-flat (in_record other) next_doc {i = suc (doc_at rows m)} s2.last
      (λ d a b. gap (length rows) d (λ k c n. omega (arith, up k m (omega arith) (omega arith))) (λ k c n. absurd (omega arith)))
      ∙ count_yes (in_record other) (doc_at rows m) (there m (omega arith)) ∙ ap suc (counted m (omega arith)) ∙ e

  in_order : gather (in_record other) (λ d. row_at other (place other d)) next_doc ≡ rows
  unfolding in_record place
  in_order =
      sym (gather-is (in_record other) (λ d. row_at other (place other d)) rows next_doc no_row (sym all-counted) (λ d l h.
      let p = some_out (is_doc other d) (length other) h in
      let q = least (is_doc other d) p.0 p.2 in
      let m : q.0 < length other = omega (arith, p.1, q.1) in
      let k = from q.0 m in
      let e : doc_at rows k.0 ≡ d = ap (λ r. r.doc) (sym k.2) ∙ eqb-true _ _ q.2 in
      ap (row_at rows) (ap (count (in_record other)) (sym e) ∙ counted k.0 k.1) ∙ sym k.2
      ∙ ap (row_at other) (sym (earliest-is (is_doc other d) (length other) m q.2 q.3))))

-- LOAD OF SAVE

module _ {room : ℕ} (t : Table) (sound : SoundTable room t) where
  -- "Length 12 + 16F + 4n"
  old-length : length (old_saved t) ≡ 12 + 16 * length (frames t) + 4 * length t.rows
  old-length = length-saved old_form t ∙ ap (λ n. 12 + 16 * length (frames t) + 4 * n) (all-documents t sound)

  old-doc-told : (i : ℕ) → i < length t.rows → document_at 4 (old_saved t) (entry_of t i) ≡ doc_at t.rows i
  unfolding docs_of
  old-doc-told i l =
      read-body old_form t (frame-place t i) (frame_below t sound i l) (doc-place t i) _ (doc-below t sound i l) (omega (arith, read_count old_form t))
      ∙ gathered-at t sound i l (doc_at t.rows)

  pub old-told-to : (i : ℕ) → i < length t.rows → (p : ℕ) × (p < length (told_rows 4 (old_saved t))) × (row_at (told_rows 4 (old_saved t)) p ≡ row_at t.rows i)
  old-told-to i l = let h = told-to t sound old_form 4 old-doc-told i l in (entry_of t i, omega (arith, h.0, length-told 4 (old_saved t)), h.1)

  -- The rows are told in the order of their documents.
  pub old-loaded-saved : S2rising t.rows t.next_doc → old_loaded (old_saved t) ≡ t
  unfolding old_loaded
  old-loaded-saved order =
      table_is _ _ _ t
      (ap (λ n. gather (in_record (told_rows 4 (old_saved t))) (λ d. row_at (told_rows 4 (old_saved t)) (place (told_rows 4 (old_saved t)) d)) n) (read-next-doc old_form t)
      ∙ in_order t.rows (told_rows 4 (old_saved t)) t.next_doc order sound.s1.some
      (λ p l.
      let q = told-from t sound old_form p (omega (arith, length-told 4 (old_saved t))) in
      (q.0, q.1, ap (row_at (told_rows 4 (old_saved t))) (sym q.2) ∙ (told-to t sound old_form 4 old-doc-told q.0 q.1).1))
      old-told-to)
      (read-next-doc old_form t) (read-next-frame old_form t)

-- THE BYTES THAT ARE TAKEN

pub from-old-save-is : (bytes : List ℕ) → So (from_old_save? bytes) ↔ (OldTable 512 (old_loaded bytes) × (old_saved (old_loaded bytes) ≡ bytes))
unfolding from_old_save?
from-old-save-is bytes = ref-and (old-table-is 512 (old_loaded bytes)) (same-list-is (old_saved (old_loaded bytes)) bytes)

pub old-save-load : (bytes : List ℕ) → So (from_old_save? bytes) → old_saved (old_loaded bytes) ≡ bytes
old-save-load bytes h = ((from-old-save-is bytes).0 h).1

pub from-old-save-in : (t : Table) → OldTable 512 t → So (from_old_save? (old_saved t))
from-old-save-in t s = let e = old-loaded-saved t s.sound s.order in (from-old-save-is (old_saved t)).1 (subst (OldTable 512) (sym e) s, ap old_saved e)

-- What holds of such bytes before a row is looked at.
pub record OldSizes (bytes : List ℕ) : Type 0 where
  pub contents : Sizes bytes
  pub framed : 1 ≤ number_at bytes 0
  pub filled : (j : ℕ) → j < number_at bytes 0 → 1 ≤ documents_in bytes j
  pub long : length bytes ≡ 12 + 16 * number_at bytes 0 + 4 * entries_in bytes
  pub rows : length (old_loaded bytes).rows ≡ entries_in bytes

old-saved-sizes : (t : Table) → OldTable 512 t → OldSizes (old_saved t)
old-saved-sizes t o =
    let s = o.sound in
    let F = length (frames t) in
    let count : number_at (old_saved t) 0 ≡ F = read_count old_form t in
    let total : entries_in (old_saved t) ≡ length t.rows = told-total t s old_form in
    let long : length (old_saved t) ≡ 12 + 16 * F + 4 * length t.rows = old-length t s in
    record {
      contents = saved-sizes old_form t s;
      framed = omega (arith, frames-some t s);
      filled = λ j l. rw (read-documents old_form t j (omega arith)) (some-documents t s j (omega arith));
      long = omega arith;
      rows = ap (λ u. length u.rows) (old-loaded-saved t s o.order) ∙ sym total;
    }

pub old-sizes : (bytes : List ℕ) → So (from_old_save? bytes) → OldSizes bytes
old-sizes bytes h = subst OldSizes (old-save-load bytes h) (old-saved-sizes (old_loaded bytes) ((from-old-save-is bytes).0 h).0)
