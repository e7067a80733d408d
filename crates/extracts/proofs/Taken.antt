-- A window's rows gathered, and taken out into zero words. Assumes nothing.
use Prim.Native.Nat.{ℕ, suc, ◌+◌, ◌-◌, ◌*◌, ◌≤◌}
use mathlib.Core.Bool.{Bool, false, So}
use mathlib.Core.List.{List, [], ◌∷◌, ◌++◌, flat_map, append-nil}
use mathlib.Core.Path.{◌≡◌, refl, sym, ap, ap₂, ◌∙◌}
use native.Mathlib.Numerals.{add-one}
use native.Mathlib.Omega.{arith}
use lib.Dec.{eqb}
use lib.ListN.{length, replicate, length-replicate}
use borrow.Author.Tests.{eqb-true, eq-eqb, le-ltb}
use Rattle.rules.specs.Below.{count, gather}
use Rattle.rules.specs.Rows.{Row, Table, none, row_at}
use Rattle.rules.specs.Words.{put, capacity, words_of_row, table_of, rows_of, written}
use Rattle.rules.specs.Sound.{Sound, SoundTable}
use Rattle.rules.specs.Windows.{in_window, window_rows}
use Rattle.rules.specs.Calls.{window_in}
use Rattle.laws.proofs.Tests.{test, clash, count_yes, count_no, count_most, length-gather}
use Rattle.laws.proofs.Tree.{TreeOf, tree_of}
use Rattle.laws.proofs.Loops.{earliest-out}
use Rattle.laws.proofs.Loads.{in-room}
use Rattle.laws.proofs.Reflect.{sound-is}
use Rattle.laws.proofs.Writes.{length-put, put-put, put-far}
use Rattle.laws.proofs.Words.{length-words, table-written, length-written, written-sound}
use Rattle.laws.proofs.Appended.{words_of-shape, words_snoc}
use Rattle.laws.proofs.Rooms.{written-zeros}
use Rattle.windows.proofs.Roots.{root-row, root-kin}
use Rattle.members.specs.Members.{Kin}
use Rattle.sound.specs.Check.{Examined}
use Rattle.sound.proofs.Checks.{examined-sound, examined-fits}
use Rattle.extracts.specs.Windows.{other_root, Starts, Gathers, Gathered}

-- WHICH ROWS

module _ (words : List ℕ) (e : Examined words) (word : (table_of words).next_doc ≤ none) where
  tree : TreeOf (rows_of words) (table_of words).next_doc (table_of words).next_frame
  tree = tree_of (examined-sound words e).table word

  pub examined-kin : Kin (rows_of words)
  examined-kin = root-kin (rows_of words) tree

  -- The root row above a row before the first of another root frame is of frame r.
  pub starts : (r : ℕ) → Starts r (rows_of words)
  starts r i before l =
      let rows = rows_of words in
      let k = root-row rows tree (suc i) i (omega arith) l in
      let none_before = (earliest-out (other_root r rows) (length rows)).none_before k.0 (omega arith) in
      test (eqb (rows_frame k.0) r)
      (λ t. eq-eqb _ _ (sym k.3 ∙ eqb-true _ _ t))
      (λ f. absurd (clash {b = other_root r rows k.0} (rw (eq-eqb _ _ k.2, f) refl) none_before))
    where
      rows_frame : ℕ → ℕ
      rows_frame k = (row_at (rows_of words) k).frame

-- THE COPY

-- Zero words with room for 512 rows.
abbrev pub zeros : List ℕ
zeros = replicate 2051 0

module _ (t : Table) {room : ℕ} (s : SoundTable room t) (fits : length t.rows ≤ 512) where
  pub room-is : capacity zeros ≡ 512
  room-is = omega (arith, length-replicate {A = ℕ} 2051 0)

  copy-sound : Sound (written zeros t)
  copy-sound = written-sound zeros t (omega (arith, length-replicate {A = ℕ} 2051 0)) (in-room (capacity zeros) s (omega (arith, room-is)))

  pub copy-table : table_of (written zeros t) ≡ t
  copy-table = table-written zeros t (omega (arith, length-replicate {A = ℕ} 2051 0)) (omega (arith, room-is))

  pub copy-long : length (written zeros t) ≡ 2051
  copy-long = length-written zeros t ∙ length-replicate {A = ℕ} 2051 0

  pub copy-examined : Examined (written zeros t)
  copy-examined = record { long = le-ltb (length (written zeros t)) 7 (omega (arith, copy-long)); passes = (sound-is (written zeros t)).1 copy-sound }

-- THE ROWS, ONE AFTER THE OTHER

module _ (r : ℕ) (rows : List Row) where
  pub gathered_none : (own : List ℕ) → own ≡ zeros → Gathered r rows 0 0 own
  unfolding count gather flat_map put
  gathered_none own z = record { many = refl; words_are = z }

  module _ (i k j : ℕ) (inside : Bool) (old new : List ℕ) (is : inside ≡ in_window r rows i) (g : Gathered r rows i k old) (t : Gathers inside (row_at rows i) k old j new) where
    abbrev upto : List Row
    upto = gather (in_window r rows) (row_at rows) i

    one_more : So (in_window r rows i) → Gathered r rows (suc i) j new
    unfolding gather
    one_more w =
        let yes = is ∙ w in
        let at : 3 + 4 * k ≡ 3 + length (flat_map words_of_row upto) = omega (arith, g.many, length-words upto, length-gather (in_window r rows) (row_at rows) i) in
        record {
          many = t.next-is ∙ rw yes (omega (arith, g.many, count_yes (in_window r rows) i w));
          words_are =
              t.words_are ∙ rw (yes, w) (ap₂ (λ o a. put o a (words_of_row (row_at rows i))) g.words_are at ∙ put-put (flat_map words_of_row upto) (words_of_row (row_at rows i)) zeros 3
              ∙ ap (put zeros 3) (sym (words_snoc upto (row_at rows i))));
        }

    none_more : in_window r rows i ≡ false → Gathered r rows (suc i) j new
    unfolding gather
    none_more f =
        let no = is ∙ f in
        record { many = t.next-is ∙ rw no (g.many ∙ sym (count_no (in_window r rows) i f)); words_are = t.words_are ∙ rw (no, f) g.words_are }

    pub gathered-more : Gathered r rows (i + 1) j new
    gathered-more = rw (add-one i) (test (in_window r rows i) one_more none_more)

  -- There is room for one more, and for the head.
  pub gathered-long : (i k : ℕ) (own : List ℕ) → Gathered r rows i k own → length own ≡ 2051
  gathered-long i k own g = ap length g.words_are ∙ length-put zeros 3 _ ∙ length-replicate {A = ℕ} 2051 0

  pub gathered-few : (i k : ℕ) (own : List ℕ) → Gathered r rows i k own → k ≤ i
  gathered-few i k own g = omega (arith, g.many, count_most (in_window r rows) i)

-- With the head they are the window's own record.
pub taken_out : (words : List ℕ) → Examined words → (r k d f : ℕ) (own left : List ℕ) → Gathered r (rows_of words) (length (rows_of words)) k own →
    d ≡ (table_of words).next_doc → f ≡ (table_of words).next_frame → left ≡ put own 0 (k ∷ d ∷ f ∷ []) → left ≡ written zeros (window_in words r)
unfolding window_rows
taken_out words e r k d f own left g de fe h =
    let t = window_in words r in
    let vs = flat_map words_of_row t.rows in
    let n = length t.rows in
    let top = length t.rows ∷ t.next_doc ∷ t.next_frame ∷ [] in
    let few : n ≤ 512 = omega (arith, examined-fits words e, count_most (in_window r (rows_of words)) (length (rows_of words)), length-gather (in_window r (rows_of words)) (row_at (rows_of words)) (length (rows_of words))) in
    let none_left : n - n ≡ 0 = omega arith in
    let many : k ≡ n = g.many ∙ sym (length-gather (in_window r (rows_of words)) (row_at (rows_of words)) (length (rows_of words))) in
    h ∙ ap₂ (λ x y. put own 0 (k ∷ x ∷ y ∷ [])) de fe ∙ ap₂ (λ o m. put o 0 (m ∷ t.next_doc ∷ t.next_frame ∷ [])) g.words_are many
    ∙ sym (put-far top vs zeros 0 3 (omega arith))
    ∙ put-put top vs zeros 0
    ∙ ap (put zeros 0) (sym (words_of-shape n t ∙ ap (λ m. top ++ (vs ++ replicate (4 * m) 0)) none_left ∙ ap (λ l. top ++ l) (append-nil vs)))
    ∙ written-zeros 2051 n t (omega arith) (omega (arith, length-replicate {A = ℕ} 2051 0))
