-- A record begins sound and stays sound, and its words 32-bit. Assumes nothing.
use Prim.Native.Nat.{ℕ, ◌+◌, ◌≤◌}
use mathlib.Core.Bool.{Bool, So}
use mathlib.Core.List.{List, [], ◌∷◌}
use mathlib.Core.Path.{refl, sym, ap, subst}
use native.Mathlib.Omega.{arith}
use lib.ListN.{length, get_or}
use borrow.Author.Tests.{ltb-false}
use Rattle.rules.specs.Below.{some_below, all_below, count}
use Rattle.rules.specs.Rows.{Table, none}
use Rattle.rules.specs.Steps.{step, reach}
use Rattle.rules.specs.Moves.{fresh_table}
use Rattle.rules.specs.Words.{capacity, table_of, written}
use Rattle.rules.specs.Sound.{SoundTable, sound_table?, Sound}
use Rattle.rules.specs.Saved.{number_at, loaded}
use Rattle.rules.specs.OldSaved.{old_loaded}
use Rattle.rules.specs.Calls.{Call, refusals, accepted, NoneGiven}
use Rattle.rules.specs.Runs.{Move, after, run}
use Rattle.laws.proofs.Words.{written-sound}
use Rattle.laws.proofs.Reflect.{sound-table-is}
use Rattle.laws.proofs.Loads.{in-room, from-save-is}
use Rattle.laws.proofs.OldLoads.{from-old-save-is}
use Rattle.laws.specs.Loading.{IsLoad}
use Rattle.laws.proofs.Calls.{outcome-accepted, load_is, load-old-is}
use Rattle.demands.specs.Record.{Words32, Bytes, Accepted}
use Rattle.demands.specs.Standing.{Stands, left, Standing}
use Rattle.demands.proofs.Accepted.{accepted-none, made, by_move}
use Rattle.demands.proofs.Lasting.{Lasting, long, made-lasting}
use Rattle.demands.proofs.Wide.{written-wide}
use Rattle.demands.proofs.Loading.{load-out, left_is}

module _ (words : List ℕ) (wide : Words32 words) (s : Sound words) (m : Move) where
  -- A move keeps a record sound, refused or not.
  pub sound-kept : Sound (after words m)
  sound-kept =
      let l = long words s in
      by_move words m
      (λ h e. subst Sound (sym e) (written-sound words (made (table_of words) m) (omega arith) (made-lasting words wide s m h).sound))
      (λ e. subst Sound (sym e) s)

  -- And its words are 32-bit: next numbers rise only when they are not 4294967295.
  pub words-kept : Words32 (after words m)
  words-kept =
      let l = long words s in
      by_move words m
      (λ h e. subst Words32 (sym e) (written-wide words (made (table_of words) m) wide (omega arith) (made-lasting words wide s m h)))
      (λ e. subst Words32 (sym e) wide)

-- So does every run of moves.
pub run-kept : (moves : List Move) (words : List ℕ) → Words32 words → Sound words → Words32 (run words moves) × Sound (run words moves)
unfolding run
run-kept [] words wide s = (wide, s)
run-kept (m ∷ moves) words wide s = run-kept moves (after words m) (words-kept words wide s m) (sound-kept words wide s m)

-- A RECORD BEGINS SOUND

written_stands : (words : List ℕ) (t : Table) → Words32 words → 3 ≤ length words → Lasting (capacity words) t → Stands (written words t)
written_stands words t wide l h = (written-wide words t wide l h, written-sound words t l h.sound)

fresh-sound : SoundTable 1 fresh_table
unfolding some_below all_below count step reach sound_table?
fresh-sound = (sound-table-is 1 fresh_table).0 refl

fresh-stands : (words : List ℕ) → Words32 words → Accepted (Call.Fresh words) → Stands (left (Call.Fresh words))
unfolding refusals NoneGiven accepted
fresh-stands words wide a =
    let h = accepted-none (Call.Fresh words) a in
    let l : 7 ≤ length words = ltb-false _ _ h.0 in
    subst Stands (sym (ap (λ o. get_or o.lent 0 []) (outcome-accepted (Call.Fresh words) h)))
    (written_stands words fresh_table wide (omega arith) (record { sound = in-room _ fresh-sound (omega arith); doc = omega arith; frame = omega arith }))

pub number-wide : (bytes : List ℕ) → Bytes bytes → (k : ℕ) → number_at bytes k ≤ none
number-wide bytes b k = let p = b k in let q = b (k + 1) in let r = b (k + 2) in let s = b (k + 3) in omega arith

-- A loading call whose bytes, where they are taken, tell a sound table of 32-bit numbers.
load-stands : {c : Call} {words : List ℕ} {taken : Bool} {t : Table} → IsLoad c words taken t → Words32 words → (So taken → SoundTable 512 t) → t.next_doc ≤ none → t.next_frame ≤ none →
    Accepted c → Stands (left c)
load-stands {words = words} {t = t} is wide sound d f a =
    let l = load-out is a in
    let seven = l.seven in
    subst Stands (sym (left_is is a)) (written_stands words t wide (omega arith) (record { sound = in-room _ (sound l.from) l.fits; doc = d; frame = f }))

new-stands : (words bytes : List ℕ) → Words32 words → Bytes bytes → Accepted (Call.Load words bytes) → Stands (left (Call.Load words bytes))
unfolding loaded
new-stands words bytes wide b = load-stands (load_is words bytes) wide (λ h. ((from-save-is bytes).0 h).0) (number-wide bytes b 4) (number-wide bytes b 8)

old-stands : (words bytes : List ℕ) → Words32 words → Bytes bytes → Accepted (Call.LoadOld words bytes) → Stands (left (Call.LoadOld words bytes))
unfolding old_loaded
old-stands words bytes wide b = load-stands (load-old-is words bytes) wide (λ h. ((from-old-save-is bytes).0 h).0.sound) (number-wide bytes b 4) (number-wide bytes b 8)

-- Fresh and the loading calls begin a sound record of 32-bit words, and every move keeps it one.
pub standing : Standing
standing =
    record {
      fresh = fresh-stands;
      load = new-stands;
      load-old = old-stands;
      move = λ words s m. (words-kept words s.0 s.1 m, sound-kept words s.0 s.1 m);
    }
