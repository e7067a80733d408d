-- The paper's number and values for a result tell the result: no two results of a call have one answer. Assumes nothing.
use Prim.Native.Nat.{ℕ}
use mathlib.Core.Bool.{cond}
use mathlib.Core.List.{List, [], ◌∷◌}
use mathlib.Core.Path.{◌≡◌, refl, ap, sym, ◌∙◌}
use mathlib.Mathlib.Logic.Function.Defs.{Injective, LeftInverse, LeftInverse-Injective}
use lib.Dec.{eqb}
use lib.Ieee.{binary64, of_bits}
use lib.Ieee.Bits.{of_bits-to_bits}
use lib.ListN.{get_or}
use Rattle.base.specs.declared.Refusal.{Refusal}
use Rattle.base.specs.declared.Refusal.TheVariants.{ShortRecord, Unsound, NotSaved, Absent, Hidden, Beyond, Full, UsedUp, ShortBuffer, RootFrame, NotFinite, NoEntry, NoRoot, BadPlaces}
use Rattle.base.specs.Numbers.{number_of, carried_by}
use Rattle.rules.specs.Calls.{Answer}
use Rattle.std.specs.Prelude.{Option, None, Some, Result, Ok, Err}
use Rattle.base.specs.declared.DocNo.{DocNo}
use Rattle.base.specs.Answers.{answered}
use Rattle.moves.specs.Answers.{fresh_is, opened_is}
use Rattle.navigates.specs.Answers.{navigated_is}
use Rattle.drops.specs.Answers.{dropped_is}
use Rattle.replaces.specs.Answers.{replaced_is}
use Rattle.traverses.specs.Answers.{traversed_is}
use Rattle.lists.specs.Answers.{standing_is, listed_is}
use Rattle.asks.specs.declared.Sight.{Sight}
use Rattle.asks.specs.Answers.{sight_told, sight_is, stretch_is}
use Rattle.outlines.specs.Answers.{outlined_is}
use Rattle.saved.specs.Answers.{saving_is}
use Rattle.told.specs.Answers.{loading_is}
use Rattle.contents.specs.Answers.{told_is}
use Rattle.points.specs.declared.Place.{Place}
use Rattle.points.specs.declared.Place.TheVariants.{Itself, At}
use Rattle.places.specs.Answers.{placed_is, setting_is}
use Rattle.lines.specs.declared.Command.{Command as Read}
use Rattle.lines.specs.declared.Command.TheVariants as Reads
use Rattle.lines.specs.declared.Reply.{Reply}
use Rattle.lines.specs.declared.Reply.TheVariants as Replies
use Rattle.lines.specs.Lines.{Command, command_is}
use Rattle.lines.specs.Reply.{Said, reply_is}
use Rattle.determined.specs.Determined.{OfDoubles}

-- The refusal that a number is given for, with what it carries.
refusal_by : ℕ → List ℕ → Refusal
refusal_by k carried =
    get_or (ShortRecord ∷ ShortRecord ∷ Unsound ∷ NotSaved ∷ Absent ∷ Hidden (record { 0 = get_or carried 0 0 }) ∷ Beyond ∷ Full ∷ UsedUp ∷ ShortBuffer ∷ RootFrame ∷ NotFinite ∷ NoEntry ∷ NoRoot ∷ ShortRecord ∷ BadPlaces ∷ []) k ShortRecord

-- It is the refusal that has the number and carries that: no two have both.
refusal-back : (r : Refusal) → refusal_by (number_of r) (carried_by r) ≡ r
unfolding refusal_by
refusal-back ShortRecord = refl
refusal-back Unsound = refl
refusal-back NotSaved = refl
refusal-back Absent = refl
refusal-back (Hidden d) = refl
refusal-back Beyond = refl
refusal-back Full = refl
refusal-back UsedUp = refl
refusal-back ShortBuffer = refl
refusal-back RootFrame = refl
refusal-back NotFinite = refl
refusal-back NoEntry = refl
refusal-back NoRoot = refl
refusal-back BadPlaces = refl

module _ {A : Type 0} (values : A → List ℕ) (given : List ℕ → A) where
  -- The result that an answer is given for: of the values, or a refusal.
  result_by : Answer → Result A Refusal
  result_by (Answer.gives vs) = Ok (given vs)
  result_by (Answer.refuses k carried) = Err (refusal_by k carried)

  -- Where the values tell what they are given for, no two results have one answer.
  answered-injective : LeftInverse given values → Injective (answered values)
  unfolding result_by
  answered-injective back =
      LeftInverse-Injective result_by (answered values)
      λ r. elim r as (λ k. result_by (answered values k) ≡ k) [ Ok a ↦ ap Ok (back a) | Err k ↦ ap Err (refusal-back k) ]

-- The number in these values, and the document or frame of it.
abbrev first : List ℕ → ℕ
first v = get_or v 0 0

-- So it is of each call.
pub fresh-injective : Injective fresh_is
fresh-injective = answered-injective _ (λ v. tt) λ u. refl

pub opened-injective : Injective opened_is
opened-injective = answered-injective _ (λ v. record { document = record { 0 = first v }; frame = record { 0 = get_or v 1 0 } }) λ o. refl

pub navigated-injective : Injective navigated_is
navigated-injective = answered-injective _ (λ v. record { 0 = first v }) λ d. refl

pub dropped-injective : Injective dropped_is
dropped-injective = answered-injective _ first λ n. refl

pub replaced-injective : Injective replaced_is
replaced-injective = answered-injective _ (λ v. record { 0 = first v }) λ d. refl

pub traversed-injective : Injective traversed_is
traversed-injective = answered-injective _ first λ n. refl

pub standing-injective : Injective standing_is
standing-injective = answered-injective _ (λ v. record { position = first v; steps = get_or v 1 0; length = get_or v 2 0 }) λ s. refl

-- Who hides, by the values of a sight.
hider_told : List ℕ → Option DocNo
hider_told v = cond (eqb (first v) 1) None (Some (record { 0 = get_or v 1 0 }))

sight-back : (h : Option DocNo) (n : ℕ) → ◌≡◌ {A = Sight} (record { hider = hider_told (sight_told h n); links = get_or (sight_told h n) 2 0 }) (record { hider = h; links = n })
unfolding hider_told
sight-back None n = refl
sight-back (Some d) n = refl

pub sight-injective : Injective sight_is
sight-injective = answered-injective _ (λ v. record { hider = hider_told v; links = get_or v 2 0 }) λ s. sight-back s.hider s.links

pub listed-injective : Injective listed_is
listed-injective = answered-injective _ (λ v. record { taken = first v; upcoming = get_or v 1 0 }) λ l. refl

pub stretch-injective : Injective stretch_is
stretch-injective = answered-injective _ first λ n. refl

pub outlined-injective : Injective outlined_is
outlined-injective = answered-injective _ first λ n. refl

pub saving-injective : Injective saving_is
saving-injective = answered-injective _ first λ n. refl

pub loading-injective : Injective loading_is
loading-injective = answered-injective _ first λ n. refl

pub told-injective : Injective told_is
told-injective = answered-injective _ (λ v. record { position = first v; steps = get_or v 1 0 }) λ t. refl

pub setting-injective : Injective setting_is
setting-injective = answered-injective _ (λ v. tt) λ u. refl

-- The place that values are given for, and so the one that an answer is.
place_by : List ℕ → Place
place_by v = cond (eqb (first v) 1) (At (record { x = of_bits binary64 (get_or v 1 0); y = of_bits binary64 (get_or v 2 0) })) Itself

placed-back : (r : Result Place Refusal) → OfDoubles r → result_by (λ p. []) place_by (placed_is r) ≡ r
unfolding result_by place_by
placed-back (Ok Itself) h = refl
placed-back (Ok (At p)) h = λ i. Ok (At (record { x = of_bits-to_bits binary64 p.x h.0 i; y = of_bits-to_bits binary64 p.y h.1 i }))
placed-back (Err k) h = ap Err (refusal-back k)

pub placed_same : (r q : Result Place Refusal) → OfDoubles r → OfDoubles q → placed_is r ≡ placed_is q → r ≡ q
placed_same r q a b e = sym (placed-back r a) ∙ ap (result_by (λ p. []) place_by) e ∙ placed-back q b

-- The reply that is printed so; no two are printed alike.
reply_by : Said → Reply
reply_by (Said.ok v p s) = Replies.Ok v (record { position = p; steps = s })
reply_by (Said.tabbed d f p s) = Replies.Tab (record { 0 = d }) (record { 0 = f }) (record { position = p; steps = s })
reply_by (Said.denied k carried p s) = Replies.No (refusal_by k carried) (record { position = p; steps = s })
reply_by Said.bad = Replies.Bad

pub reply-injective : Injective reply_is
unfolding reply_by
reply-injective =
    LeftInverse-Injective reply_by reply_is
    λ r. elim r as (λ k. reply_by (reply_is k) ≡ k) [ Replies.Ok v s ↦ refl | Replies.Tab d f s ↦ refl | Replies.No k s ↦ ap (λ x. Replies.No x s) (refusal-back k) | Replies.Bad ↦ refl ]

-- The command that asks this; no two ask the same.
read_by : Command → Option Read
read_by (Command.opens d) = Some (Reads.Open (record { 0 = d }))
read_by (Command.navs d) = Some (Reads.Nav (record { 0 = d }))
read_by (Command.goes r δ) = Some (Reads.Go (record { 0 = r }) δ)
read_by (Command.drops f) = Some (Reads.Drop (record { 0 = f }))
read_by (Command.replaces d) = Some (Reads.Replace (record { 0 = d }))
read_by Command.tabs = Some Reads.Tab
read_by Command.bad = None

command-back : (r : Option Read) → read_by (command_is r) ≡ r
unfolding read_by
command-back None = refl
command-back (Some (Reads.Open d)) = refl
command-back (Some (Reads.Nav d)) = refl
command-back (Some (Reads.Go r δ)) = refl
command-back (Some (Reads.Drop f)) = refl
command-back (Some (Reads.Replace d)) = refl
command-back (Some Reads.Tab) = refl

pub command-injective : Injective command_is
command-injective = LeftInverse-Injective read_by command_is command-back
