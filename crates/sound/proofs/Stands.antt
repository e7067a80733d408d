-- What the pass tells of where the window of a sound record stands. Assumes nothing.
use Prim.Native.Nat.{ℕ, ◌-◌, ◌≤◌}
use mathlib.Core.Bool.{not, So, cond}
use mathlib.Core.List.{List}
use mathlib.Core.Path.{◌≡◌, sym, ap, ◌∙◌}
use native.Mathlib.Omega.{arith}
use lib.ListN.{length}
use Rattle.rules.specs.Below.{count, earliest, latest}
use Rattle.rules.specs.Steps.{is_step, taken, upcoming, position, steps}
use Rattle.rules.specs.Rows.{none}
use Rattle.rules.specs.Words.{table_of, rows_of}
use Rattle.rules.specs.Sound.{sound?}
use Rattle.laws.proofs.Tests.{test, count_most}
use Rattle.laws.proofs.Loops.{earliest-none}
use Rattle.laws.proofs.Reflect.{sound-is}
use Rattle.laws.proofs.Standing.{count-rest, steps-most, position-start, taken_start}
use Rattle.sound.specs.Quick.{comes}
use Rattle.sound.specs.Pass.{Passed}
use Rattle.sound.specs.Survey.{alone?, stand_of}
use Rattle.sound.specs.declared.Pass.{Pass}
use Rattle.sound.proofs.Quick.{comes-start}
use Rattle.sound.proofs.Alone.{alone-rows}

module _ (words : List ℕ) (sound : So (sound? words)) (one : So (alone? (rows_of words))) (word : (table_of words).next_doc ≤ none) (p : Pass) (w : Passed (rows_of words) (length (rows_of words)) p) (n : ℕ) (all : n ≡ length (rows_of words)) where
  abbrev start : ℕ
  start = earliest (comes (rows_of words)) (length (rows_of words))

  start_is : start ≡ earliest (upcoming (rows_of words)) (length (rows_of words))
  start_is = comes-start (rows_of words) ((sound-is words).0 sound).table.s6

  -- The place of the earliest upcoming step, and the frames that began before it, where there is one; else the rows' end, and all frames.
  abbrev here : ℕ
  here = cond p.late p.upcoming.0 n

  abbrev begun : ℕ
  begun = cond p.late p.begun p.frames

  here-is : here ≡ start
  here-is = test p.late (λ t. rw t (w.upcoming-is t)) (λ f. rw f (all ∙ sym (earliest-none (comes (rows_of words)) (length (rows_of words)) (sym w.late_is ∙ f))))

  begun-is : begun ≡ count (λ k. not (is_step (rows_of words) k)) start
  begun-is =
      test p.late (λ t. rw t (w.begun-is t)) (λ f.
      rw f (w.frames-are ∙ ap (count (λ k. not (is_step (rows_of words) k))) (sym (earliest-none (comes (rows_of words)) (length (rows_of words)) (sym w.late_is ∙ f)))))

  pub begun-before : begun ≤ here
  begun-before = omega (arith, here-is, begun-is, count_most (λ k. not (is_step (rows_of words) k)) start)

  stand-frames : p.frames ≡ length (rows_of words) - steps (rows_of words)
  unfolding steps
  stand-frames = omega (arith, w.frames-are, count-rest (is_step (rows_of words)) (length (rows_of words)))

  stand-steps : n - p.frames ≡ steps (rows_of words)
  stand-steps = omega (arith, stand-frames, steps-most (rows_of words))

  stand-position : here - begun ≡ position (rows_of words)
  stand-position =
      let s = alone-rows words ((sound-is words).0 sound) one word in
      omega (arith, here-is, begun-is, count-rest (is_step (rows_of words)) start, ap (count (is_step (rows_of words))) start_is ∙ position-start (rows_of words) s.s6 s.s7)

  stand-last : p.last ≡ record { 0 = latest (taken (rows_of words)) (length (rows_of words)) }
  stand-last =
      let s = alone-rows words ((sound-is words).0 sound) one word in
      ap (λ k. record { 0 = k }) (w.last-is ∙ ap (latest (is_step (rows_of words))) start_is ∙ sym (taken_start (rows_of words) s.s6 s.s7))

  pub stand-is : record { frames = p.frames; steps = n - p.frames; position = here - begun; upcoming = record { 0 = here }; last = p.last } ≡ stand_of (rows_of words)
  stand-is = rw (stand-steps, stand-position, stand-frames, here-is ∙ start_is, stand-last)
