-- The counts that a call gives fit in an out word. Assumes nothing.
use Prim.Native.Nat.{ℕ, ◌*◌, ◌/◌, ◌≤◌}
use mathlib.Core.Bool.{Bool, So}
use mathlib.Core.List.{List, [], ◌∷◌, flat_map}
use mathlib.Core.Path.{◌≡◌, refl, sym, ap, subst, ◌∙◌}
use native.Mathlib.Omega.{arith}
use lib.Dec.{eqb}
use lib.IntN.{ℤ, pos, negsuc, nat_abs}
use lib.ListN.{length, get_or, length-append, length-reverse}
use mir.Syntax.{w32}
use mir.Val.{SFits}
use borrow.Author.Tests.{ltb-false, not-false}
use Rattle.rules.specs.Below.{gather}
use Rattle.rules.specs.Rows.{Row, Table, none, row_at, doc_at, in_frame, is_frame}
use Rattle.rules.specs.Steps.{taken, upcoming, position, steps, script_length}
use Rattle.rules.specs.Windows.{in_window, window_rows}
use Rattle.rules.specs.Moves.{walked, frames, change_row, changes, shown_doc}
use Rattle.rules.specs.Words.{capacity, table_of, rows_of}
use Rattle.rules.specs.Asks.{taken_list, upcoming_list, outline_of}
use Rattle.rules.specs.Saved.{saved}
use Rattle.rules.specs.Contents.{position_in, steps_in, not_contents}
use Rattle.rules.specs.Calls.{Call, Answer, refusals, accepted, outcome, NoneGiven, window_in}
use Rattle.laws.specs.Loading.{IsLoad, reading}
use Rattle.laws.proofs.Tests.{test, some_in, some_out, count-le, count_most, length-gather, gather-from}
use Rattle.laws.proofs.Calls.{by-ladder, outcome-accepted, outcome-refused}
use Rattle.laws.proofs.Central.{position-steps}
use Rattle.laws.proofs.Reflect.{sound-is}
use Rattle.laws.proofs.Standing.{steps-most}
use Rattle.laws.proofs.Trips.{frames-few}
use Rattle.laws.proofs.Loads.{saved-length}
use Rattle.laws.proofs.Contents.{fits_out, steps-are, position-most}
use Rattle.laws.proofs.Outlines.{outline-bound}
use Rattle.windows.proofs.Window.{window-length}
use Rattle.extracts.proofs.Windowed.{window-table}
use Rattle.std.specs.Prelude.{Result, Ok, Err}
use Rattle.base.specs.declared.Refusal.{Refusal}
use Rattle.contents.specs.declared.Told.{Told as Contents}
use Rattle.frame_history.specs.Face.{Small, SmallContents}

-- The k-th value of an answer.
abbrev value : ℕ → Answer → ℕ
value k (Answer.gives values) = get_or values k 0
value k (Answer.refuses j carried) = 0

-- A call that gives values is not refused, and they are those of the accepted call.
module _ (c : Call) (a : Answer) (runs : List (List ℕ)) (values : List ℕ) (e : outcome c ≡ record { answer = a; lent = runs }) (g : a ≡ Answer.gives values) where
  not-refused : NoneGiven (refusals c)
  not-refused =
      by-ladder (refusals c) (λ h. h) (λ k vs r.
      let f : Answer.refuses k vs ≡ Answer.gives values = ap (λ o. o.answer) (sym (outcome-refused c k vs r) ∙ e) ∙ g in
      let z : ◌≡◌ {A = ℕ} 0 1 = cc in
      absurd (omega arith))

  given_is : (accepted c).answer ≡ Answer.gives values
  given_is = ap (λ o. o.answer) (sym (outcome-accepted c not-refused) ∙ e) ∙ g

-- A window has no more rows than the record.
window-few : (words : List ℕ) (r : ℕ) → length (window_in words r).rows ≤ length (rows_of words)
window-few words r = omega (arith, window-length (rows_of words) r, count_most (in_window r (rows_of words)) (length (rows_of words)))

-- Neither list of steps is longer than the rows.
takens-few : (rows : List Row) → length (taken_list rows) ≤ length rows
unfolding taken_list
takens-few rows =
    omega (arith, length-reverse (gather (taken rows) (doc_at rows) (length rows)), length-gather (taken rows) (doc_at rows) (length rows), count_most (taken rows) (length rows))

upcomings-few : (rows : List Row) → length (upcoming_list rows) ≤ length rows
unfolding upcoming_list
upcomings-few rows = omega (arith, length-gather (upcoming rows) (doc_at rows) (length rows), count_most (upcoming rows) (length rows))

module _ (words : List ℕ) (a : Answer) (runs : List (List ℕ)) where
  -- Position, steps and length.
  pub position-small : (r p s l : ℕ) → outcome (Call.Position words r) ≡ record { answer = a; lent = runs } → a ≡ Answer.gives (p ∷ s ∷ l ∷ []) → (p ≤ 512) × (s ≤ 512) × (l ≤ 513)
  unfolding refusals NoneGiven accepted
  position-small r p s l e g =
      let h = not-refused (Call.Position words r) a runs _ e g in
      let v = given_is (Call.Position words r) a runs _ e g in
      let m = ((sound-is words).0 (not-false _ h.1.0)).table.s1.fits in
      let rows = (window_in words r).rows in
      let x : position rows ≡ p = ap (value 0) v in
      let y : steps rows ≡ s = ap (value 1) v in
      let z : script_length rows ≡ l = ap (value 2) v in
      let i = position-steps rows in
      let j = steps-most rows in
      let k = window-few words r in
      (omega arith, omega arith, omega arith)

  -- How many steps are taken, and how many upcoming.
  pub lists-small : (r : ℕ) (takens upcomings : List ℕ) (t u : ℕ) → outcome (Call.Lists words r takens upcomings) ≡ record { answer = a; lent = runs } → a ≡ Answer.gives (t ∷ u ∷ []) → (t ≤ 512) × (u ≤ 512)
  unfolding refusals NoneGiven accepted
  lists-small r takens upcomings t u e g =
      let h = not-refused (Call.Lists words r takens upcomings) a runs _ e g in
      let v = given_is (Call.Lists words r takens upcomings) a runs _ e g in
      let m = ((sound-is words).0 (not-false _ h.1.0)).table.s1.fits in
      let rows = (window_in words r).rows in
      let x : length (taken_list rows) ≡ t = ap (value 0) v in
      let y : length (upcoming_list rows) ≡ u = ap (value 1) v in
      let k = window-few words r in
      (omega (arith, takens-few rows), omega (arith, upcomings-few rows))

  -- The length of the saved form.
  pub save-small : (room : List ℕ) (n : ℕ) → outcome (Call.Save words room) ≡ record { answer = a; lent = runs } → a ≡ Answer.gives (n ∷ []) → n ≤ 12300
  unfolding refusals NoneGiven accepted
  save-small room n e g =
      let h = not-refused (Call.Save words room) a runs _ e g in
      let v = given_is (Call.Save words room) a runs _ e g in
      let x : length (saved (table_of words)) ≡ n = ap (value 0) v in
      let s = ((sound-is words).0 (not-false _ h.1.0)).table in
      omega (arith, saved-length (table_of words) s, frames-few (table_of words) s, s.s1.fits)

  -- The pairs of the outline.
  pub outline-small : (r : ℕ) (room : List ℕ) (n : ℕ) → (table_of words).next_doc ≤ none → outcome (Call.Outline words r room) ≡ record { answer = a; lent = runs } → a ≡ Answer.gives (n ∷ []) → n ≤ 512
  unfolding refusals NoneGiven accepted
  outline-small r room n w e g =
      let h = not-refused (Call.Outline words r room) a runs _ e g in
      let v = given_is (Call.Outline words r room) a runs _ e g in
      let x : length (outline_of (window_in words r)) / 2 ≡ n = ap (value 0) v in
      let s = window-table words (record { long = h.0; passes = not-false _ h.1.0 }) w r (not-false _ h.1.1.0) in
      omega (arith, outline-bound (window_in words r) 512 s w, s.s1.fits)

-- The rows of loaded bytes, by either call.
pub load-small : {c : Call} {words : List ℕ} {taken : Bool} {t : Table} → IsLoad c words taken t → (a : Answer) (runs : List (List ℕ)) (n : ℕ) → outcome c ≡ record { answer = a; lent = runs } → a ≡ Answer.gives (n ∷ []) → n ≤ 512
unfolding NoneGiven
load-small {c} {words} {taken} {t} is a runs n e g =
    let h = subst NoneGiven is.refuses (not-refused c a runs _ e g) in
    let v = given_is c a runs _ e g in
    let x : length t.rows ≡ n = ap (λ o. value 0 o.answer) (sym is.accepts) ∙ ap (value 0) v in
    let m : length t.rows ≤ capacity words = ltb-false _ _ h.1.1.0 in
    omega arith

-- What the contents tell, in either form.
pub contents-small : (width : ℕ) (bytes : List ℕ) (a : Answer) (runs : List (List ℕ)) (p s : ℕ) → reading width bytes ≡ record { answer = a; lent = runs } → a ≡ Answer.gives (p ∷ s ∷ []) → (p ≤ 512) × (s ≤ 512)
unfolding reading
contents-small width bytes a runs p s e g =
    test (not_contents width bytes)
    (λ t.
    let r : Answer.refuses 3 [] ≡ Answer.gives (p ∷ s ∷ []) = ap (λ o. o.answer) (rw t at e) ∙ g in
    let z : ◌≡◌ {A = ℕ} 0 1 = cc in
    absurd (omega arith))
    (λ o.
    let v : Answer.gives (position_in bytes ∷ steps_in bytes ∷ []) ≡ Answer.gives (p ∷ s ∷ []) = ap (λ o. o.answer) (rw o at e) ∙ g in
    let x : position_in bytes ≡ p = ap (value 0) v in
    let y : steps_in bytes ≡ s = ap (value 1) v in
    let f = fits_out width bytes o in
    (omega (arith, f.few, position-most width bytes f), omega (arith, f.few, steps-are width bytes f)))

-- Four words a change row, and no more rows than frames.
change-few : (before after : List Row) (f : ℕ) → length (change_row before after f) ≤ 4
unfolding change_row
change-few before after f = test (eqb (shown_doc before f) (shown_doc after f)) (λ t. rw t (omega arith)) (λ n. rw n (omega arith))

flat-few : (g : ℕ → List ℕ) → ((f : ℕ) → length (g f) ≤ 4) → (fs : List ℕ) → length (flat_map g fs) ≤ 4 * length fs
unfolding flat_map
flat-few g h [] = omega arith
flat-few g h (f ∷ fs) = omega (arith, h f, length-append (g f) (flat_map g fs), flat-few g h fs)

changes-few : (t : Table) (δ : ℤ) → length (changes t δ) ≤ 4 * length (frames t)
unfolding changes
changes-few t δ = flat-few (change_row t.rows (walked δ t.rows)) (change-few t.rows (walked δ t.rows)) (frames t)

-- The frames of a window's rows are frames of the rows, and no more than these have.
frame-among : (rows : List Row) (r f : ℕ) → So (is_frame (window_rows r rows) f) → So (is_frame rows f)
unfolding is_frame window_rows
frame-among rows r f h =
    let k = some_out (in_frame (window_rows r rows) f) (length (window_rows r rows)) h in
    let c = gather-from (in_window r rows) (row_at rows) (length rows) k.0 _ k.1 in
    some_in (in_frame rows f) (length rows) c.1 (ap (λ x. eqb x.frame f) (sym c.4) ∙ k.2)

frames-among : (words : List ℕ) (r : ℕ) → length (frames (window_in words r)) ≤ length (frames (table_of words))
frames-among words r =
    let next = (table_of words).next_frame in
    let own = is_frame (window_in words r).rows in
    let all = is_frame (rows_of words) in
    omega (arith, length-gather own (λ k. k) next, length-gather all (λ k. k) next, count-le own all next (λ f l. frame-among (rows_of words) r f))

module _ (words : List ℕ) (a : Answer) (runs : List (List ℕ)) where
  -- The change rows.
  pub traverse-small : (r : ℕ) (δ : ℤ) (room : List ℕ) (n : ℕ) → outcome (Call.Traverse words r δ room) ≡ record { answer = a; lent = runs } → a ≡ Answer.gives (n ∷ []) → n ≤ 512
  unfolding refusals NoneGiven accepted
  traverse-small r δ room n e g =
      let h = not-refused (Call.Traverse words r δ room) a runs _ e g in
      let v = given_is (Call.Traverse words r δ room) a runs _ e g in
      let x : length (changes (window_in words r) δ) / 4 ≡ n = ap (value 0) v in
      let s = ((sound-is words).0 (not-false _ h.1.0)).table in
      omega (arith, changes-few (window_in words r) δ, frames-among words r, frames-few (table_of words) s, s.s1.fits)

-- What is answered can be told, if it is small where it is given.
pub small-count : (answer : Result ℕ Refusal) → ((n : ℕ) → answer ≡ Ok n → n ≤ 2147483648) → Small answer
small-count (Ok n) h = omega (arith, h n refl)
small-count (Err r) h = tt

pub small-contents : (answer : Result Contents Refusal) → ((t : Contents) → answer ≡ Ok t → (t.position ≤ 512) × (t.steps ≤ 512)) → SmallContents answer
small-contents (Ok t) h = let b = h t refl in (omega arith, omega arith)
small-contents (Err r) h = tt

-- The magnitude of an amount of 32 bits.
magnitude-small : (δ : ℤ) → SFits w32 δ → nat_abs δ ≤ 2147483648
magnitude-small (pos n) f = omega arith
magnitude-small (negsuc n) f = omega arith

-- The entries of a stretch.
pub stretch-small : (takens upcomings : List ℕ) (δ : ℤ) (a : Answer) (runs : List (List ℕ)) (n : ℕ) → SFits w32 δ →
    outcome (Call.StretchCount takens upcomings δ) ≡ record { answer = a; lent = runs } → a ≡ Answer.gives (n ∷ []) → n ≤ 2147483648
unfolding accepted
stretch-small takens upcomings δ a runs n f e g =
    let v = given_is (Call.StretchCount takens upcomings δ) a runs _ e g in
    let x : nat_abs δ ≡ n = ap (value 0) v in
    let m = magnitude-small δ f in
    omega arith
