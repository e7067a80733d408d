-- Contents answers what loading would find, and reads nothing after the contents. Assumes nothing.
use Prim.Native.Nat.{ℕ, ◌+◌, ◌-◌, ◌*◌, ◌≤◌, ◌<◌}
use mathlib.Core.Bool.{Bool, not, So}
use mathlib.Core.List.{List, [], ◌∷◌}
use mathlib.Core.Path.{◌≡◌, refl, sym, ap, ap₂, subst, ◌∙◌}
use native.Mathlib.Omega.{arith}
use lib.Dec.{ltb}
use lib.ListN.{length}
use borrow.Author.Tests.{not-false}
use Rattle.rules.specs.Below.{some_below, sum}
use Rattle.rules.specs.Rows.{Table, none}
use Rattle.rules.specs.Steps.{position, steps}
use Rattle.rules.specs.Windows.{window_rows}
use Rattle.rules.specs.Words.{table_of, rows_of}
use Rattle.rules.specs.Sound.{SoundTable, Sound}
use Rattle.rules.specs.Saved.{saved_with, number_at, documents_in, shown_in, entries_in, loaded, from_save?}
use Rattle.rules.specs.OldSaved.{old_loaded, S5alone, OldTable, from_old_save?}
use Rattle.rules.specs.Contents.{position_in, steps_in, not_contents}
use Rattle.rules.specs.Calls.{Call, Answer, ◌leaving◌, refusals, accepted, outcome, NoneGiven}
use Rattle.laws.specs.Loading.{IsLoad, reading}
use Rattle.laws.proofs.Tests.{some_same}
use Rattle.laws.proofs.Pieces.{sum_same}
use Rattle.laws.proofs.Calls.{outcome-accepted, load_is, load-old-is, contents-is, contents-old-is}
use Rattle.laws.proofs.Numbers.{Form, new_form, old_form}
use Rattle.laws.proofs.Loads.{from-save-is, sizes}
use Rattle.laws.proofs.OldLoads.{from-old-save-is, old-sizes}
use Rattle.laws.proofs.Contents.{reading-saved}
use Rattle.windows.proofs.Window.{WideRows, wide_rows}
use Rattle.windows.proofs.Only.{only-rows}
use Rattle.windows.proofs.Sums.{windows-position, windows_steps}
use Rattle.demands.specs.Record.{Accepted}
use Rattle.demands.specs.Standing.{left}
use Rattle.demands.specs.Contents.{of_all, StandsSo, ContentsLoaded, SameContents, ContentsBlind}
use Rattle.demands.proofs.Accepted.{accepted-none}
use Rattle.demands.proofs.Standing.{number-wide}
use Rattle.demands.proofs.Loading.{load-out, load-leaves}
use Rattle.demands.proofs.Saving.{takes-old}

-- LOADED

-- A loading call that was accepted, and the table that it left.
module _ {c : Call} {words : List ℕ} {taken : Bool} {t : Table} (is : IsLoad c words taken t) (sound : So taken → SoundTable 512 t) (next : t.next_doc ≤ none) (a : Accepted c) where
  abbrev values : List ℕ
  values = position t.rows ∷ steps t.rows ∷ []

  there : Sound (left c) × (table_of (left c) ≡ t)
  there = load-leaves is sound a

  rows_are : rows_of (left c) ≡ t.rows
  rows_are = ap (λ (u : Table). u.rows) there.1

  wide : WideRows (rows_of (left c)) (table_of (left c)).next_doc (table_of (left c)).next_frame
  wide = wide_rows there.0.table (rw there.1 next)

  summed : values ≡ of_all (left c)
  summed =
      ap (λ l. position l ∷ steps l ∷ []) (sym rows_are)
      ∙ ap₂ (λ p s. p ∷ s ∷ []) (sym (windows-position (rows_of (left c)) wide.tree)) (sym (windows_steps (rows_of (left c)) wide.tree))

  of_one : S5alone (rows_of (left c)) → (r p s : ℕ) → StandsSo (left c) r p s → values ≡ p ∷ s ∷ []
  unfolding refusals accepted NoneGiven
  of_one one r p s stands =
      let call = Call.Position (left c) r in
      let h = accepted-none call (_, stands.1) in
      let only : window_rows r (rows_of (left c)) ≡ t.rows = only-rows (table_of (left c)) wide one.root r (not-false _ h.1.1.0) ∙ rows_are in
      let e : Answer.gives (position (window_rows r (rows_of (left c))) ∷ steps (window_rows r (rows_of (left c))) ∷ (steps (window_rows r (rows_of (left c))) + 1) ∷ []) ≡ Answer.gives (p ∷ s ∷ stands.0 ∷ []) =
      ap (λ o. o.answer) (sym (outcome-accepted call h)) ∙ stands.1 in
      let both : (position (window_rows r (rows_of (left c))) ≡ p) × (steps (window_rows r (rows_of (left c))) ≡ s) = (cc, cc) in
      ap (λ l. position l ∷ steps l ∷ []) (sym only) ∙ ap₂ (λ p s. p ∷ s ∷ []) both.0 both.1

-- The bytes of a table, in either form.
of-saved : (m : Form) (width : ℕ) (t : Table) → SoundTable 512 t → (bytes : List ℕ) → saved_with m.body t ≡ bytes → length bytes ≡ 12 + 16 * number_at bytes 0 + width * entries_in bytes →
    reading width bytes ≡ (position t.rows ∷ steps t.rows ∷ [] leaving [])
of-saved m width t s bytes e =
    subst (λ b. length b ≡ 12 + 16 * number_at b 0 + width * entries_in b → reading width b ≡ (position t.rows ∷ steps t.rows ∷ [] leaving [])) e
    (λ l. reading-saved t s m width l s.s1.fits)

told-new : (bytes : List ℕ) → So (from_save? bytes) → outcome (Call.Contents bytes) ≡ (position (loaded bytes).rows ∷ steps (loaded bytes).rows ∷ [] leaving [])
told-new bytes h = let s = (from-save-is bytes).0 h in contents-is bytes ∙ of-saved new_form 8 (loaded bytes) s.0 bytes s.1 (sizes bytes h).1

told-old : (bytes : List ℕ) → So (from_old_save? bytes) → outcome (Call.ContentsOld bytes) ≡ (position (old_loaded bytes).rows ∷ steps (old_loaded bytes).rows ∷ [] leaving [])
told-old bytes h = let s = (from-old-save-is bytes).0 h in contents-old-is bytes ∙ of-saved old_form 4 (old_loaded bytes) s.0.sound bytes s.1 (old-sizes bytes h).long

-- "On bytes that loading accepts, old or new form, the answer equals the position and steps of the loaded record"
pub contents-loaded : ContentsLoaded
unfolding loaded old_loaded
contents-loaded =
    let sound : (bytes : List ℕ) → So (from_save? bytes) → SoundTable 512 (loaded bytes) = λ bytes h. ((from-save-is bytes).0 h).0 in
    let was : (bytes : List ℕ) → So (from_old_save? bytes) → OldTable 512 (old_loaded bytes) = λ bytes h. ((from-old-save-is bytes).0 h).0 in
    let to : (v w : List ℕ) → v ≡ w → (v leaving []) ≡ (w leaving []) = λ v w. ap (λ v. v leaving []) in
    record {
      new = λ words bytes b a. let is = load_is words bytes in told-new bytes (load-out is a).from ∙ to _ _ (summed is (sound bytes) (number-wide bytes b 4) a);
      old = λ words bytes b a. let is = load-old-is words bytes in told-old bytes (load-out is a).from ∙ to _ _ (summed is (λ h. (was bytes h).sound) (number-wide bytes b 4) a);
      new-one = λ words bytes b a one r p s stands.
          let is = load_is words bytes in told-new bytes (load-out is a).from ∙ to _ _ (of_one is (sound bytes) (number-wide bytes b 4) a one r p s stands);
      old-one = λ words bytes b a r p s stands.
          let is = load-old-is words bytes in
          told-old bytes (load-out is a).from ∙ to _ _ (of_one is (λ h. (was bytes h).sound) (number-wide bytes b 4) a (takes-old.only words bytes a).2 r p s stands);
    }

-- BLIND

module _ (a b : List ℕ) (same : SameContents a b) where
  -- The numbers of the contents.
  number_same : (k : ℕ) → k + 3 < 12 + 16 * number_at a 0 → number_at a k ≡ number_at b k
  number_same k l = rw (same.same k (omega arith), same.same (k + 1) (omega arith), same.same (k + 2) (omega arith), same.same (k + 3) (omega arith)) refl

  frames-same : number_at a 0 ≡ number_at b 0
  frames-same = number_same 0 (omega arith)

  -- A sum over the frames.
  sums_same : (f : ℕ → ℕ) (g : ℕ → ℕ) → ((j : ℕ) → j < number_at a 0 → f j ≡ g j) → sum f (number_at a 0) ≡ sum g (number_at b 0)
  sums_same f g h = sum_same f g (number_at a 0) h ∙ ap (sum g) frames-same

  reading-same : (width : ℕ) → reading width a ≡ reading width b
  unfolding reading not_contents position_in steps_in
  reading-same width =
      let docs : (j : ℕ) → j < number_at a 0 → documents_in a j ≡ documents_in b j = λ j l. number_same (20 + 16 * j) (omega arith) in
      let shown : (j : ℕ) → j < number_at a 0 → shown_in a j ≡ shown_in b j = λ j l. number_same (24 + 16 * j) (omega arith) in
      cc (
        same.long,
        frames-same,
        some_same (λ j. not (ltb (shown_in a j) (documents_in a j))) (λ j. not (ltb (shown_in b j) (documents_in b j))) (number_at a 0) (λ j l. ap₂ (λ x y. not (ltb x y)) (shown j l) (docs j l))
            ∙ ap (λ n. some_below n (λ j. not (ltb (shown_in b j) (documents_in b j)))) frames-same,
        sums_same (documents_in a) (documents_in b) docs,
        sums_same (shown_in a) (shown_in b) shown,
        sums_same (λ j. documents_in a j - 1) (λ j. documents_in b j - 1) (λ j l. ap (λ d. d - 1) (docs j l)),
      )

-- "and no byte after the contents has any effect but through the total length"
pub contents-blind : ContentsBlind
contents-blind a b same = (
  contents-is a ∙ reading-same a b same 8 ∙ sym (contents-is b),
  contents-old-is a ∙ reading-same a b same 4 ∙ sym (contents-old-is b),
)
