-- Runs of values put into a list: one after the other, one over another, far apart. No law asks that the places are in the list. Assumes nothing.
use Prim.Native.Nat.{ℕ, zero, suc, ◌+◌, ◌-◌, ◌≤◌, ◌<◌}
use mathlib.Core.List.{List, [], ◌∷◌, ◌++◌}
use mathlib.Core.Logic.{◌≢◌}
use mathlib.Core.Path.{◌≡◌, refl, sym, ap, subst, ◌∙◌}
use native.Mathlib.Nat.{suc_inj, suc-ne-zero, le_antisymm}
use native.Mathlib.Omega.{arith}
use lib.ListN.{length, get_or, set, take, drop, replicate, get_or-append, length-append, length-replicate}
use lib.Seq.{sets, length-sets, set-set, set_comm, set-get_or, sets-eq, length-take-le, get_or-append-add, get_or-set_other}
use Rattle.rules.specs.Words.{put}
use Rattle.laws.specs.Writes.{Wrote}

pub length-put : (l : List ℕ) (i : ℕ) (vs : List ℕ) → length (put l i vs) ≡ length l
unfolding put
length-put l i vs = length-sets l i vs

pub put-none : (l : List ℕ) (i : ℕ) → l ≡ put l i []
unfolding put
put-none l i = refl

pub put_one : (l : List ℕ) (i v : ℕ) → set l i v ≡ put l i (v ∷ [])
unfolding put
put_one l i v = refl

-- One after the other.
pub put-put : (vs ws l : List ℕ) (i : ℕ) → put (put l i vs) (i + length vs) ws ≡ put l i (vs ++ ws)
unfolding put
put-put [] ws l i = ap (λ k. sets l k ws) (omega arith)
put-put (v ∷ vs) ws l i =
    let e : i + suc (length vs) ≡ suc i + length vs = omega arith in
    rw e (put-put vs ws (set l i v) (suc i))

-- Far apart: in either order.
set-far : (vs l : List ℕ) (i j v : ℕ) → i < j → sets (set l i v) j vs ≡ set (sets l j vs) i v
set-far [] l i j v h = refl
set-far (w ∷ vs) l i j v h =
    let ne : i ≢ j = λ e. omega arith in
    rw (set_comm l i j v w ne) (set-far vs (set l j w) i (suc j) v (omega arith))

pub put-far : (us vs l : List ℕ) (i j : ℕ) → i + length us ≤ j → put (put l i us) j vs ≡ put (put l j vs) i us
unfolding put
put-far [] vs l i j h = refl
put-far (u ∷ us) vs l i j h =
    put-far us vs (set l i u) (suc i) j (omega arith) ∙ ap (λ t. sets t (suc i) us) (set-far vs l i j u (omega arith))

-- One over another of its length.
pub put-over : (us vs l : List ℕ) (i : ℕ) → length us ≡ length vs → put (put l i us) i vs ≡ put l i vs
unfolding put
put-over [] [] l i e = refl
put-over [] (v ∷ vs) l i e = absurd (suc-ne-zero (length vs) (sym e))
put-over (u ∷ us) [] l i e = absurd (suc-ne-zero (length us) e)
put-over (u ∷ us) (v ∷ vs) l i e =
    ap (λ t. sets t (suc i) vs) (sym (set-far us (set l i u) i (suc i) v (omega arith)) ∙ rw (set-set l i u v))
    ∙ put-over us vs (set l i v) (suc i) (suc_inj e)

-- A part in the middle, written anew.
pub put-inside : (vs us ws ts l : List ℕ) (i : ℕ) → length us ≡ length ws → put (put l i (vs ++ (us ++ ts))) (i + length vs) ws ≡ put l i (vs ++ (ws ++ ts))
put-inside vs us ws ts l i e =
    let m = put l i vs in
    let at = i + length vs in
    let f : at + length us ≡ at + length ws = ap (λ k. at + k) e in
    let g : put (put (put m at us) (at + length us) ts) at ws ≡ put (put m at ws) (at + length us) ts =
    sym (put-far ws ts (put m at us) at (at + length us) (omega (arith, e))) ∙ ap (λ t. put t (at + length us) ts) (put-over us ws m at e) in
    ap (λ t. put t at ws) (sym (put-put vs (us ++ ts) l i) ∙ sym (put-put us ts m at)) ∙ g ∙ rw f (put-put ws ts m at ∙ put-put vs (ws ++ ts) l i)

-- What stands where.
pub get-put-in : (l vs : List ℕ) (i k : ℕ) → i + length vs ≤ length l → k < length vs → get_or (put l i vs) (i + k) 0 ≡ get_or vs k 0
unfolding put
get-put-in l vs i k h m =
    let e : length (take i l) ≡ i = length-take-le i l (omega arith) in
    let f : i + k < length (take i l ++ vs) = rw length-append (omega arith) in
    ap (λ t. get_or t (i + k) 0) (sets-eq vs l i h) ∙ get_or-append (take i l ++ vs) (drop (i + length vs) l) 0 (i + k) f
    ∙ ap (λ j. get_or (take i l ++ vs) (j + k) 0) (sym e) ∙ get_or-append-add (take i l) vs k 0

pub get-put-past : (vs l : List ℕ) (i j : ℕ) → i + length vs ≤ j → get_or (put l i vs) j 0 ≡ get_or l j 0
unfolding put
get-put-past [] l i j h = refl
get-put-past (v ∷ vs) l i j h = get-put-past vs (set l i v) (suc i) j (omega arith) ∙ get_or-set_other l i j v 0 (λ e. omega arith)

pub get-put-before : (vs l : List ℕ) (i j : ℕ) → j < i → get_or (put l i vs) j 0 ≡ get_or l j 0
unfolding put
get-put-before [] l i j h = refl
get-put-before (v ∷ vs) l i j h = get-put-before vs (set l i v) (suc i) j (omega arith) ∙ get_or-set_other l i j v 0 (λ e. omega arith)

-- To put what is there changes nothing.
pub put_same : (vs l : List ℕ) (i : ℕ) → ((k : ℕ) → k < length vs → get_or vs k 0 ≡ get_or l (i + k) 0) → put l i vs ≡ l
unfolding put
put_same [] l i h = refl
put_same (v ∷ vs) l i h =
    let e : i + 0 ≡ i = omega arith in
    let s : set l i v ≡ l = ap (set l i) (h 0 (omega arith) ∙ ap (λ j. get_or l j 0) e) ∙ set-get_or l i 0 in
    ap (λ t. sets t (suc i) vs) s ∙ put_same vs l (suc i) (λ k m. h (suc k) (omega arith) ∙ ap (λ j. get_or l j 0) (omega arith))

-- STORES

-- Four in a row.
pub put_four : (l : List ℕ) (i a b c d : ℕ) → set (set (set (set l i a) (i + 1) b) (i + 2) c) (i + 3) d ≡ put l i (a ∷ b ∷ c ∷ d ∷ [])
unfolding put
put_four l i a b c d =
    let e : i + 1 ≡ suc i = omega arith in
    let f : i + 2 ≡ suc (suc i) = omega arith in
    let g : i + 3 ≡ suc (suc (suc i)) = omega arith in
    rw (e, f, g)

-- Zero after zero.
zeros-snoc : (n v : ℕ) → replicate n v ++ (v ∷ []) ≡ replicate (suc n) v
zeros-snoc zero v = refl
zeros-snoc (suc n) v = ap (λ t. v ∷ t) (zeros-snoc n v)

pub fill_none : (l : List ℕ) (i v : ℕ) → l ≡ put l i (replicate (i - i) v)
fill_none l i v = let e : i - i ≡ 0 = omega arith in rw e (put-none l i)

pub fill_more : (l m : List ℕ) (i k v : ℕ) → i ≤ k → m ≡ put l i (replicate (k - i) v) → set m k v ≡ put l i (replicate (k + 1 - i) v)
fill_more l m i k v h e =
    let n : k ≡ i + length (replicate (k - i) v) = rw length-replicate (omega arith) in
    let s : k + 1 - i ≡ suc (k - i) = omega arith in
    ap (λ t. set t k v) e ∙ put_one _ _ _ ∙ ap (λ j. put (put l i (replicate (k - i) v)) j (v ∷ [])) n ∙ put-put (replicate (k - i) v) (v ∷ []) l i ∙ rw (zeros-snoc, s)

pub fill_done : (l m : List ℕ) (i k n v : ℕ) → k ≤ n → n ≤ k → m ≡ put l i (replicate (k - i) v) → m ≡ put l i (replicate (n - i) v)
fill_done l m i k n v a b e = subst (λ j. m ≡ put l i (replicate (j - i) v)) (le_antisymm a b) e

-- One before a run.
pub put-before : (vs l : List ℕ) (i v : ℕ) → set (put l (suc i) vs) i v ≡ put l i (v ∷ vs)
unfolding put
put-before vs l i v = sym (set-far vs l i (suc i) v (omega arith))

-- One after a run.
pub put-after : (vs l : List ℕ) (i v : ℕ) → set (put l i vs) (i + length vs) v ≡ put l i (vs ++ v ∷ [])
put-after vs l i v = put_one _ _ _ ∙ put-put vs (v ∷ []) l i

-- WHAT A WRITER WROTE

pub wrote_none : (old : List ℕ) (at : ℕ) → Wrote old at [] old at
wrote_none old at = record { list = put-none old at; past = omega arith }

pub wrote-length : (old vs new : List ℕ) (at q : ℕ) → Wrote old at vs new q → length new ≡ length old
wrote-length old vs new at q a = ap length a.list ∙ length-put old at vs

-- One after the other.
pub wrote_then : (old mid new vs ws : List ℕ) (at p q : ℕ) → Wrote old at vs mid p → Wrote mid p ws new q → Wrote old at (vs ++ ws) new q
wrote_then old mid new vs ws at p q a b =
    record {
      list = b.list ∙ ap (λ t. put t p ws) a.list ∙ ap (λ k. put (put old at vs) k ws) a.past ∙ put-put vs ws old at;
      past = omega (arith, a.past, b.past, length-append vs ws);
    }

-- What room there was for two runs is room for the second, once the first is written.
pub room-then : (old mid vs ws : List ℕ) (at q : ℕ) → at + length (vs ++ ws) ≤ length old → Wrote old at vs mid q → q + length ws ≤ length mid
room-then old mid vs ws at q l w = omega (arith, length-append vs ws, wrote-length old vs mid at q w, w.past)
