-- The tests of soundness and what they mean: `Ref b P` says that b holds exactly when P does. Assumes nothing.
use Prim.Native.Nat.{ℕ, suc, ◌+◌, ◌-◌, ◌*◌, ◌≤◌, ◌<◌}
use mathlib.Core.Path.{◌≡◌, refl, sym}
use mathlib.Core.List.{List}
use mathlib.Core.Logic.{◌↔◌, ◌⊎◌, inl, inr, ⊎_elim}
use mathlib.Core.Bool.{Bool, true, false, ◌&&◌, ◌||◌, not, So, false≢true}
use native.Mathlib.Omega.{arith}
use lib.Dec.{leb, ltb, eqb}
use lib.ListN.{length, get_or}
use borrow.Author.Tests.{lt-ltb, le-leb, eq-eqb, ltb-true, leb-true, eqb-true}
use Rattle.rules.specs.Below.{some_below, all_below, count}
use Rattle.rules.specs.Rows.{Row, Table, none, doc_at, frame_at, parent_at, shown_at, is_shown, in_record, is_frame}
use Rattle.rules.specs.Steps.{same, is_step, upcoming}
use Rattle.rules.specs.Windows.{root_at}
use Rattle.rules.specs.Words.{capacity, table_of}
use Rattle.rules.specs.Sound.{S1, S2, S3, S4, S5, S6, S7, S8, s1?, s2?, s3?, s4?, s5?, s6?, s7?, s8?, SoundTable, sound_table?, Sound, sound?}
use Rattle.rules.specs.OldSaved.{S2rising, s2rising?, S5alone, s5alone?, OldTable, old_table?}
use Rattle.laws.proofs.Tests.{by-lt, by_order, some_in, some_out, all_in, all-out}

abbrev pub Ref : Bool → Type 0 → Type 0
Ref b P = So b ↔ P

pub ref-lt : (a b : ℕ) → Ref (ltb a b) (a < b)
ref-lt a b = (ltb-true a b, lt-ltb a b)

pub ref-le : (a b : ℕ) → Ref (leb a b) (a ≤ b)
ref-le a b = (leb-true a b, le-leb a b)

pub ref-eq : (a b : ℕ) → Ref (eqb a b) (a ≡ b)
ref-eq a b = (eqb-true a b, eq-eqb a b)

pub ref-so : (b : Bool) → Ref b (So b)
ref-so b = (λ h. h, λ h. h)

pub ref-map : {b : Bool} {P Q : Type 0} → (P → Q) → (Q → P) → Ref b P → Ref b Q
ref-map f g r = (λ e. f (r.0 e), λ q. r.1 (g q))

pub ref-and : {a b : Bool} {P Q : Type 0} → Ref a P → Ref b Q → Ref (a && b) (P × Q)
ref-and {a = true} r s = (λ e. (r.0 refl, s.0 e), λ h. s.1 h.1)
ref-and {a = false} r s = (λ e. absurd (false≢true e), λ h. r.1 h.0)

-- The second test may assume what the first means.
pub ref-then : {a b : Bool} {P Q : Type 0} → Ref a P → (P → Ref b Q) → Ref (a && b) (P × Q)
ref-then {a = true} r s = (λ e. (r.0 refl, (s (r.0 refl)).0 e), λ h. (s h.0).1 h.1)
ref-then {a = false} r s = (λ e. absurd (false≢true e), λ h. r.1 h.0)

pub ref-or : {a b : Bool} {P Q : Type 0} → Ref a P → Ref b Q → Ref (a || b) (P ⊎ Q)
ref-or {a = true} r s = (λ e. inl (r.0 refl), λ h. refl)
ref-or {a = false} r s = (λ e. inr (s.0 e), λ h. ⊎_elim (λ p. absurd (false≢true (r.1 p))) (λ q. s.1 q) h)

pub ref-imp : {a b : Bool} {P Q : Type 0} → Ref a P → Ref b Q → Ref (not a || b) (P → Q)
ref-imp {a = true} r s = (λ e p. s.0 e, λ f. s.1 (f (r.0 refl)))
ref-imp {a = false} r s = (λ e p. absurd (false≢true (r.1 p)), λ f. refl)

pub ref-not : {b : Bool} {P : Type 0} → Ref b P → Ref (not b) (P → ⊥)
ref-not {b = true} r = (λ e p. absurd (false≢true e), λ f. absurd (f (r.0 refl)))
ref-not {b = false} r = (λ e p. absurd (false≢true (r.1 p)), λ f. refl)

module _ {p : ℕ → Bool} {P : ℕ → Type 0} (r : (i : ℕ) → Ref (p i) (P i)) (n : ℕ) where
  pub ref-all : Ref (all_below n p) ((i : ℕ) → i < n → P i)
  ref-all = (λ e i l. (r i).0 (all-out p n e i l), λ f. all_in p n (λ i l. (r i).1 (f i l)))

  pub ref-any : Ref (some_below n p) ((i : ℕ) × (i < n) × P i)
  ref-any = (λ e. let k = some_out p n e in (k.0, k.1, (r k.0).0 k.2), λ h. some_in p n h.1 ((r h.0).1 h.2))

-- A document, and a frame, is in the record when a row has it.
pub record_is : (rows : List Row) (d : ℕ) → Ref (in_record rows d) ((i : ℕ) × (i < length rows) × (doc_at rows i ≡ d))
unfolding in_record
record_is rows d = ref-any (λ i. ref-eq (doc_at rows i) d) (length rows)

pub frame_is : (rows : List Row) (f : ℕ) → Ref (is_frame rows f) ((i : ℕ) × (i < length rows) × (frame_at rows i ≡ f))
unfolding is_frame
frame_is rows f = ref-any (λ i. ref-eq (frame_at rows i) f) (length rows)

module _ (rows : List Row) where
  s1-is : (room : ℕ) → Ref (s1? room rows) (S1 room rows)
  s1-is room =
      ref-map (λ h. record { some = h.0; fits = h.1 }) (λ s. (s.some, s.fits)) (ref-and (ref-le 1 (length rows)) (ref-le (length rows) room))

  pub s2-is : (next_doc : ℕ) → Ref (s2? rows next_doc) (S2 rows next_doc)
  s2-is next_doc =
      ref-map
      (λ h. record {
        distinct = λ i j a b e. by_order i j (λ l. absurd ((h j b).0 (i, l, e))) (λ q. q) (λ l. absurd ((h i a).0 (j, l, sym e)));
        below = λ i l. (h i l).1;
      })
      (λ s i l. (λ k. let e = s.distinct k.0 i (omega (arith, k.1)) l k.2 in omega (arith, k.1), s.below i l))
      (ref-all (λ i. ref-and (ref-not (ref-any (λ k. ref-eq (doc_at rows k) (doc_at rows i)) i)) (ref-lt (doc_at rows i) next_doc)) (length rows))

  -- The old form's rule.
  s2rising-is : (next_doc : ℕ) → Ref (s2rising? rows next_doc) (S2rising rows next_doc)
  s2rising-is next_doc =
      ref-map (λ h. record { rise = λ i l. h.0 i (omega arith); last = h.1 }) (λ s. (λ i l. s.rise i (omega arith), s.last))
      (ref-and (ref-all (λ i. ref-lt (doc_at rows i) (doc_at rows (suc i))) (length rows - 1)) (ref-lt (doc_at rows (length rows - 1)) next_doc))

  s3-is : (next_frame : ℕ) → Ref (s3? rows next_frame) (S3 rows next_frame)
  s3-is next_frame = ref-map (λ h. record { below = h }) (λ s. s.below) (ref-all (λ i. ref-lt (frame_at rows i) next_frame) (length rows))

  s4-is : Ref (s4? rows) (S4 rows)
  s4-is =
      ref-map (λ h. record { placed = h }) (λ s. s.placed)
      (ref-all (λ i. ref-or (ref-eq (parent_at rows i) none) (ref-any (λ j. ref-eq (doc_at rows j) (parent_at rows i)) i)) (length rows))

  s5-is : Ref (s5? rows) (S5 rows)
  s5-is =
      ref-map
      (λ h. record { kin = λ i j a b. h i a j b })
      (λ s i a j b. s.kin i j a b)
      (ref-all (λ i. ref-all (λ j. ref-imp (ref-eq (frame_at rows i) (frame_at rows j)) (ref-eq (parent_at rows i) (parent_at rows j))) (length rows)) (length rows))

  s5alone-is : Ref (s5alone? rows) (S5alone rows)
  s5alone-is =
      ref-map
      (λ h. record { root = λ i j a b e f. h i a j b (e, f) })
      (λ s i a j b e. s.root i j a b e.0 e.1)
      (ref-all (λ i. ref-all (λ j.
      ref-imp (ref-and (ref-eq (parent_at rows i) none) (ref-eq (parent_at rows j) none)) (ref-eq (frame_at rows i) (frame_at rows j))) (length rows)) (length rows))

  s6-is : Ref (s6? rows) (S6 rows)
  s6-is =
      ref-map (λ h. record { bit = λ i l. (h i l).0; one = λ i l. (h i l).1 }) (λ s i l. (s.bit i l, s.one i l))
      (ref-all (λ i. ref-and (ref-le (shown_at rows i) 1) (ref-eq (count (λ k. same (frame_at rows) i k && is_shown rows k) (length rows)) 1)) (length rows))

  s7-is : Ref (s7? rows) (S7 rows)
  s7-is =
      ref-map
      (λ h. record { later = λ i j a b e u s t. h i a j b (u, (s, (t, e))) })
      (λ s i a j b h. s.later i j a b h.1.1.1 h.0 h.1.0 h.1.1.0)
      (ref-all (λ i. ref-all (λ j.
      ref-imp (ref-and (ref-so (upcoming rows i)) (ref-and (ref-so (is_step rows j)) (ref-and (ref-so (is_shown rows j)) (ref-eq (root_at rows i) (root_at rows j))))) (ref-lt j i)) (length rows)) (length rows))

s8-is : (words : List ℕ) → Ref (s8? words) (S8 words)
s8-is words =
    ref-map
    (λ h. record { zeros = λ k a b. ⊎_elim (λ l. absurd (omega arith)) (λ e. e) (h k b) })
    (λ s k l. by-lt k (3 + 4 * get_or words 0 0) (λ m. inl m) (λ m. inr (s.zeros k m l)))
    (ref-all (λ k. ref-or (ref-lt k (3 + 4 * get_or words 0 0)) (ref-eq (get_or words k 0) 0)) (3 + 4 * capacity words))

pub sound-table-is : (room : ℕ) (t : Table) → So (sound_table? room t) ↔ SoundTable room t
unfolding sound_table?
sound-table-is room t =
    ref-map
    (λ h. record { s1 = h.0; s2 = h.1.0; s3 = h.1.1.0; s4 = h.1.1.1.0; s5 = h.1.1.1.1.0; s6 = h.1.1.1.1.1.0; s7 = h.1.1.1.1.1.1 })
    (λ s. (s.s1, (s.s2, (s.s3, (s.s4, (s.s5, (s.s6, s.s7)))))))
    (ref-and (s1-is t.rows room) (ref-and (s2-is t.rows t.next_doc) (ref-and (s3-is t.rows t.next_frame)
    (ref-and (s4-is t.rows) (ref-and (s5-is t.rows) (ref-and (s6-is t.rows) (s7-is t.rows)))))))

pub old-table-is : (room : ℕ) (t : Table) → So (old_table? room t) ↔ OldTable room t
unfolding old_table?
old-table-is room t =
    ref-map
    (λ h. record { sound = h.0; order = h.1.0; alone = h.1.1 })
    (λ s. (s.sound, (s.order, s.alone)))
    (ref-and (sound-table-is room t) (ref-and (s2rising-is t.rows t.next_doc) (s5alone-is t.rows)))

-- The computed test is S1 to S8.
pub sound-is : (words : List ℕ) → So (sound? words) ↔ Sound words
unfolding sound?
sound-is words =
    ref-map (λ h. record { table = h.0; s8 = h.1 }) (λ s. (s.table, s.s8)) (ref-and (sound-table-is (capacity words) (table_of words)) (s8-is words))
