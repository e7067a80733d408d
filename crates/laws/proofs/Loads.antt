-- Save, then Load: the table that was saved. The bytes that Load takes are those that Save writes for some sound table. Assumes nothing.
use Prim.Native.Nat.{ℕ, zero, suc, ◌+◌, ◌*◌, ◌≤◌, ◌<◌}
use mathlib.Core.Bool.{So}
use mathlib.Core.List.{List}
use mathlib.Core.Logic.{◌≢◌, ◌↔◌}
use mathlib.Core.Path.{◌≡◌, refl, sym, ap, subst, ◌∙◌}
use native.Mathlib.Nat.{not-suc-le-zero}
use native.Mathlib.Omega.{arith}
use lib.Dec.{eqb}
use lib.ListN.{length, get_or, get_or-eq_default}
use lib.Seq.{ext_get_or}
use borrow.Author.Tests.{eqb-true, eq-eqb, ne_eqb, eqb-false}
use Rattle.rules.specs.Below.{tab}
use Rattle.rules.specs.Rows.{Row, Table, none, no_row, row_at, doc_at}
use Rattle.rules.specs.Moves.{frames}
use Rattle.rules.specs.Sound.{SoundTable}
use Rattle.rules.specs.Saved.{saved_with, saved, number_at, entries_in, document_at, place_told, told_rows, row_for, loaded, same_list, from_save?}
use Rattle.laws.proofs.Tests.{test, by-lt, length-tab, tab-at, tab-is}
use Rattle.laws.proofs.Reflect.{ref-eq, ref-and, ref-all, ref-map, sound-table-is}
use Rattle.laws.proofs.Numbers.{Form, new_form, pair, length-saved, cells-twice, read_count, read-next-doc, read-next-frame, read-pair}
use Rattle.laws.proofs.Trips.{table_is, all-documents, frames-few, told-total, frame-place, doc-place, entry_of, frame_below, doc-below, gathered-at, told-to, told-from}

-- EACH ENTRY AT ITS PLACE

module _ (bytes : List ℕ) where
  -- One entry more: it has the place, or not.
  pub row-for-none : (i : ℕ) → row_for bytes i 0 ≡ no_row
  unfolding row_for
  row-for-none i = refl

  pub row-for-yes : (i e : ℕ) → place_told bytes e ≡ i → row_for bytes i (suc e) ≡ row_at (told_rows 8 bytes) e
  unfolding row_for
  row-for-yes i e q = rw (eq-eqb (place_told bytes e) i q) refl

  pub row-for-no : (i e : ℕ) → place_told bytes e ≢ i → row_for bytes i (suc e) ≡ row_for bytes i e
  unfolding row_for
  row-for-no i e q = rw (ne_eqb (place_told bytes e) i q) refl

  -- Where every entry with the place tells the same row, and one has it, that is the row.
  pub row-for-is : (r : Row) (i n : ℕ) {e : ℕ} → e < n → place_told bytes e ≡ i → ((e : ℕ) → e < n → place_told bytes e ≡ i → row_at (told_rows 8 bytes) e ≡ r) → row_for bytes i n ≡ r
  row-for-is r i zero l q h = absurd (not-suc-le-zero l)
  row-for-is r i (suc n) {e} l q h =
      test (eqb (place_told bytes n) i)
      (λ t. let p = eqb-true _ _ t in row-for-yes i n p ∙ h n (omega arith) p)
      (λ f. let p = eqb-false _ _ f in
      row-for-no i n p ∙ row-for-is r i n {e = e} (by-lt e n (λ a. a) (λ a. let z : e ≡ n = omega arith in absurd (p (ap (place_told bytes) (sym z) ∙ q)))) q (λ e a. h e (omega arith)))

  -- Where none has it there is no row.
  pub row-for-no-one : (i n : ℕ) → ((e : ℕ) → e < n → place_told bytes e ≢ i) → row_for bytes i n ≡ no_row
  row-for-no-one i zero h = row-for-none i
  row-for-no-one i (suc n) h = row-for-no i n (h n (omega arith)) ∙ row-for-no-one i n (λ e a. h e (omega arith))

  -- The rows of the table.
  pub length-loaded : length (loaded bytes).rows ≡ entries_in bytes
  unfolding loaded
  length-loaded = length-tab (λ i. row_for bytes i (entries_in bytes)) (entries_in bytes)

  pub loaded-row : (i : ℕ) → i < entries_in bytes → row_at (loaded bytes).rows i ≡ row_for bytes i (entries_in bytes)
  unfolding loaded
  loaded-row i l = tab-at (λ i. row_for bytes i (entries_in bytes)) (entries_in bytes) no_row l

-- LOAD OF SAVE

module _ {room : ℕ} (t : Table) (sound : SoundTable room t) where
  -- "length 12 + 16F + 8n"
  pub saved-length : length (saved t) ≡ 12 + 16 * length (frames t) + 8 * length t.rows
  saved-length = omega (arith, length-saved new_form t, cells-twice t (length (frames t)), all-documents t sound)

  -- The entry of row i: number c of it.
  cell-is : (i : ℕ) → i < length t.rows → (c at : ℕ) → c < 2 → at ≡ 12 + 16 * number_at (saved t) 0 + 8 * entry_of t i + 4 * c → number_at (saved t) at ≡ get_or (pair t.rows i) c 0
  cell-is i l c at m e =
      read-pair t (frame-place t i) (frame_below t sound i l) (doc-place t i) c at (doc-below t sound i l) m (omega (arith, read_count new_form t))
      ∙ ap (λ k. get_or (pair t.rows k) c 0) (gathered-at t sound i l (λ k. k))

  pub doc-told : (i : ℕ) → i < length t.rows → document_at 8 (saved t) (entry_of t i) ≡ doc_at t.rows i
  doc-told i l = cell-is i l 0 _ (omega arith) (omega arith)

  pub place-told : (i : ℕ) → i < length t.rows → place_told (saved t) (entry_of t i) ≡ i
  place-told i l = cell-is i l 1 _ (omega arith) (omega arith)

  -- Every entry is of the row at its place.
  pub entry-told : (e : ℕ) → e < entries_in (saved t) → (i : ℕ) × (i < length t.rows) × (place_told (saved t) e ≡ i) × (row_at (told_rows 8 (saved t)) e ≡ row_at t.rows i)
  entry-told e l =
      let q = told-from t sound new_form e l in
      (q.0, q.1, ap (place_told (saved t)) (sym q.2) ∙ place-told q.0 q.1, ap (row_at (told_rows 8 (saved t))) (sym q.2) ∙ (told-to t sound new_form 8 doc-told q.0 q.1).1)

  pub loaded-saved : loaded (saved t) ≡ t
  unfolding loaded
  loaded-saved =
      table_is _ _ _ t
      (ap (λ n. tab n (λ i. row_for (saved t) i (entries_in (saved t)))) (told-total t sound new_form)
      ∙ sym (tab-is (λ i. row_for (saved t) i (entries_in (saved t))) t.rows (length t.rows) no_row refl (λ i l.
      sym (row-for-is (saved t) (row_at t.rows i) i (entries_in (saved t)) {e = entry_of t i} (told-to t sound new_form 8 doc-told i l).0 (place-told i l) (λ e a b.
      let q = entry-told e a in
      q.3 ∙ ap (row_at t.rows) (sym q.2 ∙ b))))))
      (read-next-doc new_form t) (read-next-frame new_form t)

-- THE BYTES THAT LOAD TAKES

-- A sound table in other room.
pub in-room : {a : ℕ} (b : ℕ) {t : Table} → SoundTable a t → length t.rows ≤ b → SoundTable b t
in-room b s fits =
    record { s1 = record { some = s.s1.some; fits = fits }; s2 = s.s2; s3 = s.s3; s4 = s.s4; s5 = s.s5; s6 = s.s6; s7 = s.s7 }

-- The tests and what they mean.
pub same-list-is : (a b : List ℕ) → So (same_list a b) ↔ (a ≡ b)
same-list-is a b =
    ref-map (λ h. ext_get_or 0 a b h.0 (λ i l. h.1 i (omega arith))) (λ e. (ap length e, λ i l. ap (λ c. get_or c i 0) e))
    (ref-and (ref-eq (length a) (length b)) (ref-all (λ i. ref-eq (get_or a i 0) (get_or b i 0)) (length b)))

pub from-save-is : (bytes : List ℕ) → So (from_save? bytes) ↔ (SoundTable 512 (loaded bytes) × (saved (loaded bytes) ≡ bytes))
unfolding from_save?
from-save-is bytes = ref-and (sound-table-is 512 (loaded bytes)) (same-list-is (saved (loaded bytes)) bytes)

-- Save of what Load took gives the bytes back.
pub save-load : (bytes : List ℕ) → So (from_save? bytes) → saved (loaded bytes) ≡ bytes
save-load bytes h = ((from-save-is bytes).0 h).1

pub from-save-in : (t : Table) → SoundTable 512 t → So (from_save? (saved t))
from-save-in t s = let e = loaded-saved t s in (from-save-is (saved t)).1 (subst (SoundTable 512) (sym e) s, ap saved e)

-- Four bytes spell a 32-bit number.
pub number_word : (bytes : List ℕ) → ((k : ℕ) → k < length bytes → get_or bytes k 0 ≤ 255) → (at : ℕ) → number_at bytes at ≤ none
number_word bytes small at =
    let byte : (k : ℕ) → get_or bytes k 0 ≤ 255 = λ k. by-lt k (length bytes) (small k) (λ l. omega (arith, get_or-eq_default bytes 0 {n = k} l)) in
    omega (arith, byte at, byte (at + 1), byte (at + 2), byte (at + 3))

-- SIZES

-- What holds of the contents of bytes that are taken, in either form, before a row is looked at.
pub record Sizes (bytes : List ℕ) : Type 0 where
  pub few : number_at bytes 0 ≤ 512
  pub room : entries_in bytes ≤ 512
  pub contents : 12 + 16 * number_at bytes 0 ≤ length bytes

pub saved-sizes : (m : Form) (t : Table) → SoundTable 512 t → Sizes (saved_with m.body t)
saved-sizes m t s =
    record {
      few = omega (arith, read_count m t, frames-few t s, s.s1.fits);
      room = omega (arith, told-total t s m, s.s1.fits);
      contents = omega (arith, read_count m t, length-saved m t);
    }

-- And their length.
long-saved : (t : Table) → SoundTable 512 t → length (saved t) ≡ 12 + 16 * number_at (saved t) 0 + 8 * entries_in (saved t)
long-saved t s = omega (arith, saved-length t s, told-total t s new_form, read_count new_form t)

pub sizes : (bytes : List ℕ) → So (from_save? bytes) → Sizes bytes × (length bytes ≡ 12 + 16 * number_at bytes 0 + 8 * entries_in bytes)
sizes bytes h =
    let s = (from-save-is bytes).0 h in
    subst (λ b. Sizes b × (length b ≡ 12 + 16 * number_at b 0 + 8 * entries_in b)) s.1 (saved-sizes new_form (loaded bytes) s.0, long-saved (loaded bytes) s.0)
