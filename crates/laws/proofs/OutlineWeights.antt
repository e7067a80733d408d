-- What the pairs of an outline weigh, each by its document: on a sound record, what the visible documents do. Assumes nothing.
use Prim.Native.Nat.{ℕ, zero, suc, ◌+◌, ◌≤◌, ◌<◌}
use mathlib.Core.Bool.{Bool, true, false, ◌&&◌, ◌||◌, So, cond, and-eq-true_iff}
use mathlib.Core.List.{List, [], ◌∷◌, ◌++◌, flat_map}
use mathlib.Core.Path.{◌≡◌, refl, sym, ap, subst, ◌∙◌}
use native.Mathlib.Nat.{not-suc-le-zero}
use native.Mathlib.Omega.{arith}
use lib.Dec.{eqb}
use lib.ListN.{length, drop}
use lib.Seq.{drop-cons}
use borrow.Author.Tests.{eqb-true, eqb-false, eq-eqb, ne_eqb}
use Rattle.rules.specs.Below.{sum, rising}
use Rattle.rules.specs.Rows.{Row, Table, none, no_row, doc_at, frame_at, parent_at, is_shown, is_frame, climb}
use Rattle.rules.specs.Steps.{same, visible_at}
use Rattle.rules.specs.Moves.{frames}
use Rattle.rules.specs.Asks.{outline_frame, outline_of}
use Rattle.rules.specs.Sound.{SoundTable}
use Rattle.laws.proofs.Tests.{test, off, or-false, one_out}
use Rattle.laws.proofs.Tree.{tree_of, distinct, proper}
use Rattle.laws.proofs.Climb.{climb-none, visible_ask, visible-at-is}
use Rattle.laws.proofs.Pieces.{sum_same}
use Rattle.laws.specs.Outlines.{under}
use Rattle.laws.specs.Outlines.{frames_below, frames_text, document_text}
use Rattle.laws.proofs.OutlineTexts.{hit, frame_text, text-none, below-zero, below_suc, below-skip, outline-code}

-- SUMS

-- One of the values is another, in place of 0.
sum_one : (f : ℕ → ℕ) (v k n : ℕ) → k < n → f k ≡ 0 → sum (λ i. cond (eqb k i) v (f i)) n ≡ v + sum f n
unfolding sum
sum_one f v k zero l z = absurd (not-suc-le-zero l)
sum_one f v k (suc n) l z =
    test (eqb k n)
    (λ t.
    let e : k ≡ n = eqb-true k n t in
    let y : f n ≡ 0 = ap f (sym e) ∙ z in
    let s : sum (λ i. cond (eqb k i) v (f i)) n ≡ sum f n = sum_same _ f n (λ i m. rw (ne_eqb k i (λ q. omega arith)) refl) in
    rw (t, s) (omega arith))
    (λ t. let ne = eqb-false k n t in rw (t, sum_one f v k n (below k n l ne) z) (omega arith))
  where
    below : (k n : ℕ) → k < suc n → (k ≡ n → ⊥) → k < n
    below k n l ne = let h : (k ≡ n → ⊥) = ne in omega (arith, h)

-- f m + f (m + 1) + .., k of them.
unfoldable after : (ℕ → ℕ) → ℕ → ℕ → ℕ
after f m zero = 0
after f m (suc k) = f m + after f (suc m) k

after-sum : (f : ℕ → ℕ) (k m : ℕ) → sum f (m + k) ≡ sum f m + after f m k
unfolding sum after
after-sum f zero m = let e : m + 0 ≡ m = omega arith in rw e (omega arith)
after-sum f (suc k) m = let e : m + suc k ≡ suc m + k = omega arith in rw e (omega (arith, after-sum f k (suc m)))

after-all : (f : ℕ → ℕ) (n : ℕ) → after f 0 n ≡ sum f n
unfolding sum
after-all f n = let e : 0 + n ≡ n = omega arith in omega (arith, rw e at (after-sum f n 0))

after-add : (f g h : ℕ → ℕ) (k m : ℕ) → ((j : ℕ) → m ≤ j → j < m + k → f j + g j ≡ h j) → after f m k + after g m k ≡ after h m k
unfolding after
after-add f g h zero m e = refl
after-add f g h (suc k) m e = omega (arith, e m (omega arith) (omega arith), after-add f g h k (suc m) (λ j a b. e j (omega arith) (omega arith)))

after-zero : (f : ℕ → ℕ) (k m : ℕ) → ((j : ℕ) → f j ≡ 0) → after f m k ≡ 0
unfolding after
after-zero f zero m e = refl
after-zero f (suc k) m e = omega (arith, e m, after-zero f k (suc m) e)

after_same : (f g : ℕ → ℕ) (k m : ℕ) → ((j : ℕ) → f j ≡ g j) → after f m k ≡ after g m k
unfolding after
after_same f g zero m e = refl
after_same f g (suc k) m e = omega (arith, e m, after_same f g k (suc m) e)

-- PAIRS

-- A run of pairs that are so.
pub data Pairs (P : ℕ → ℕ → Type 0) : List ℕ → Type 0 where
  nil : Pairs P []
  pair : {x y : ℕ} {l : List ℕ} → P x y → Pairs P l → Pairs P (x ∷ y ∷ l)

module _ {P : ℕ → ℕ → Type 0} where
  pairs-append : {xs ys : List ℕ} → Pairs P xs → Pairs P ys → Pairs P (xs ++ ys)
  pairs-append nil q = q
  pairs-append (pair h p) q = pair h (pairs-append p q)

  pub pairs-flat : (g : ℕ → List ℕ) → ((f : ℕ) → Pairs P (g f)) → (fs : List ℕ) → Pairs P (flat_map g fs)
  unfolding flat_map
  pairs-flat g h [] = nil
  pairs-flat g h (f ∷ fs) = pairs-append (h f) (pairs-flat g h fs)

-- From Q of a parent and the depth at which its frames are written there follows P of a shown row's document and its depth, and Q of what is beneath it.
abbrev Passes : (ℕ → ℕ → Type 0) → (ℕ → ℕ → Type 0) → List Row → Type 0
Passes P Q rows =
    (j : ℕ) → j < length rows → So (is_shown rows j) → (depth : ℕ) → Q depth (parent_at rows j) → P depth (doc_at rows j) × Q (suc depth) (doc_at rows j)

-- Then each pair of a frame is so.
pub pairs-frame : (P Q : ℕ → ℕ → Type 0) (fs : List ℕ) (rows : List Row) → Passes P Q rows → (depth d f : ℕ) → Q depth d → Pairs P (outline_frame fs rows depth d f)
unfolding outline_frame
pairs-frame P Q fs [] h depth d f q = nil
pairs-frame P Q fs (r ∷ rows) h depth d f q =
    let on : Passes P Q rows = λ j l. h (suc j) (omega arith) in
    test (eqb r.shown 1 && eqb r.parent d && eqb r.frame f)
    (λ t.
    let u = simp and-eq-true_iff at t in
    let k = h 0 (omega arith) u.0.0 depth (subst (Q depth) (sym (eqb-true _ _ u.0.1)) q) in
    rw t (pair k.0 (pairs-flat _ (λ g. pairs-frame P Q fs rows on (suc depth) r.doc g k.1) fs)))
    (λ t. rw t (pairs-frame P Q fs rows on depth d f q))

-- Pairs of any numbers.
abbrev Any : ℕ → ℕ → Type 0
Any x y = Unit {0}

abbrev pub Paired : List ℕ → Type 0
Paired = Pairs Any

paired-frame : (fs : List ℕ) (rows : List Row) (depth d f : ℕ) → Paired (outline_frame fs rows depth d f)
paired-frame fs rows depth d f = pairs-frame Any Any fs rows (λ j l s n q. (tt, tt)) depth d f tt

pub paired-below : (t : Table) (s depth d g : ℕ) → Paired (frames_below t s depth d g)
unfolding frames_below
paired-below t s depth d g = pairs-flat _ (paired-frame (frames t) (drop s t.rows) depth d) (rising (is_frame t.rows) g)

-- What w gives for the document of each pair, together.
unfoldable pub weigh : (ℕ → ℕ) → List ℕ → ℕ
weigh w [] = 0
weigh w (x ∷ []) = 0
weigh w (x ∷ y ∷ l) = w y + weigh w l

module _ (w : ℕ → ℕ) where
  weigh-append : {xs : List ℕ} (ys : List ℕ) → Paired xs → weigh w (xs ++ ys) ≡ weigh w xs + weigh w ys
  unfolding weigh
  weigh-append ys nil = omega arith
  weigh-append ys (pair h p) = omega (arith, weigh-append ys p)

  weigh-none : {l : List ℕ} → l ≡ [] → weigh w l ≡ 0
  unfolding weigh
  weigh-none e = rw e refl

  -- It is the same at every depth.
  flat-level : (g h : ℕ → List ℕ) → ((f : ℕ) → Paired (g f)) → ((f : ℕ) → Paired (h f)) → ((f : ℕ) → weigh w (g f) ≡ weigh w (h f)) → (fs : List ℕ) →
      weigh w (flat_map g fs) ≡ weigh w (flat_map h fs)
  unfolding flat_map
  flat-level g h p q e [] = refl
  flat-level g h p q e (f ∷ fs) =
      omega (arith, weigh-append (flat_map g fs) (p f), weigh-append (flat_map h fs) (q f), e f, flat-level g h p q e fs)

  frame-level : (fs : List ℕ) (rows : List Row) (k m d f : ℕ) → weigh w (outline_frame fs rows k d f) ≡ weigh w (outline_frame fs rows m d f)
  unfolding outline_frame weigh
  frame-level fs [] k m d f = refl
  frame-level fs (r ∷ rows) k m d f =
      test (eqb r.shown 1 && eqb r.parent d && eqb r.frame f)
      (λ t. rw t (ap (λ x. w r.doc + x) (flat-level _ _ (paired-frame fs rows (suc k) r.doc) (paired-frame fs rows (suc m) r.doc) (frame-level fs rows (suc k) (suc m) r.doc) fs)))
      (λ t. rw t (frame-level fs rows k m d f))

  frames-level : (t : Table) (s k m d g : ℕ) → weigh w (frames_below t s k d g) ≡ weigh w (frames_below t s m d g)
  unfolding frames_below
  frames-level t s k m d g =
      flat-level _ _ (paired-frame (frames t) (drop s t.rows) k d) (paired-frame (frames t) (drop s t.rows) m d) (frame-level (frames t) (drop s t.rows) k m d) (rising (is_frame t.rows) g)

  below-weight : (t : Table) (s d g : ℕ) → weigh w (frames_below t s 0 d g) ≡ sum (λ f. weigh w (frame_text t s 0 d f)) g
  unfolding sum weigh
  below-weight t s d zero = rw below-zero refl
  below-weight t s d (suc g) =
      rw below_suc (omega (arith, weigh-append (frame_text t s 0 d g) (paired-below t s 0 d g), below-weight t s d g))

-- A SOUND RECORD

small-yes : (s v : Bool) (x : ℕ) → cond (s && false) x 0 + cond (v && (s && true)) x 0 ≡ cond (s && v) x 0
small-yes true true x = omega arith
small-yes true false x = omega arith
small-yes false true x = omega arith
small-yes false false x = omega arith

small-no : (s v u : Bool) (x : ℕ) → cond (s && u) x 0 + cond (v && (s && false)) x 0 ≡ cond (s && u) x 0
small-no true true u x = omega arith
small-no true false u x = omega arith
small-no false true u x = omega arith
small-no false false u x = omega arith

module _ (w : ℕ → ℕ) (t : Table) (room : ℕ) (sound : SoundTable room t) (word : t.next_doc ≤ none) where
  -- What the row at place p weighs with all beneath it, and what the frames of document d do by the rows from place s on.
  abbrev whole : ℕ → ℕ
  whole p = weigh w (document_text t p 0)

  abbrev inside : ℕ → ℕ → ℕ
  inside s d = weigh w (frames_text t s 0 d)

  whole_is : (p : ℕ) → whole p ≡ w (doc_at t.rows p) + inside (suc p) (doc_at t.rows p)
  unfolding document_text weigh
  whole_is p = ap (λ x. w (doc_at t.rows p) + x) (frames-level w t (suc p) 1 0 (doc_at t.rows p) t.next_frame)

  -- A frame has one shown row.
  alone : (s j : ℕ) → s < j → j < length t.rows → So (is_shown t.rows s) → So (is_shown t.rows j) → frame_at t.rows j ≡ frame_at t.rows s → ⊥
  alone s j l m a b e =
      let q = (one_out (λ k. same (frame_at t.rows) s k && is_shown t.rows k) (length t.rows) (sound.s6.one s (omega arith))).1 s j (omega arith) m
      (simp and-eq-true_iff (eq-eqb (frame_at t.rows s) (frame_at t.rows s) refl, a)) (simp and-eq-true_iff (eq-eqb _ _ e, b)) in
      omega arith

  -- One row more: a frame is written by it or by a later one.
  frame_step : (s d f : ℕ) → s < length t.rows → weigh w (frame_text t s 0 d f) ≡ cond (hit t.rows d f s) (whole s) (weigh w (frame_text t (suc s) 0 d f))
  unfolding outline_frame document_text frames_below
  frame_step s d f l =
      ap (λ rows. weigh w (outline_frame (frames t) rows 0 d f)) (drop-cons t.rows s no_row l)
      ∙ test (hit t.rows d f s) (λ y. rw y refl) (λ n. rw n refl)

  inside-step : (s d : ℕ) → s < length t.rows → inside s d ≡ cond (under t.rows d s) (whole s) 0 + inside (suc s) d
  inside-step s d l =
      let rows = t.rows in
      below-weight w t s d t.next_frame
      ∙ sum_same _ _ t.next_frame (λ f m. frame_step s d f l)
      ∙ test (under rows d s)
      (λ y.
      let a = simp and-eq-true_iff at y in
      let z : frame_text t (suc s) 0 d (frame_at rows s) ≡ [] =
      text-none t (suc s) 0 d (frame_at rows s) (λ j b m. off (hit rows d (frame_at rows s) j) (λ h.
      let u = simp and-eq-true_iff at h in
      alone s j b m a.0 u.0.0 (eqb-true _ _ u.1))) in
      rw y (sum_one (λ f. weigh w (frame_text t (suc s) 0 d f)) (whole s) (frame_at rows s) t.next_frame (sound.s3.below s l) (weigh-none w z)
      ∙ ap (λ x. whole s + x) (sym (below-weight w t (suc s) d t.next_frame))))
      (λ n. rw n (omega (arith, below-weight w t (suc s) d t.next_frame)))

  inside-all : (k s d : ℕ) → s + k ≡ length t.rows → inside s d ≡ after (λ j. cond (under t.rows d j) (whole j) 0) s k
  unfolding after weigh
  inside-all zero s d e =
      ap (weigh w) (below-skip t s 0 d 0 t.next_frame (omega arith) (λ f a b. text-none t s 0 d f (λ j l m. absurd (omega arith))) ∙ below-zero t s 0 d)
  inside-all (suc k) s d e = inside-step s d (omega arith) ∙ ap (λ x. cond (under t.rows d s) (whole s) 0 + x) (inside-all k (suc s) d (omega arith))

  -- A parent is none, or a visible document of the rows before m.
  abbrev up : ℕ → ℕ → Bool
  up m p = eqb p none || climb false (visible_ask t.rows) t.rows m p

  up_suc : (m p : ℕ) → up (suc m) p ≡ (eqb p none || cond (eqb (doc_at t.rows m) p) (visible_at t.rows m) (climb false (visible_ask t.rows) t.rows m p))
  unfolding climb
  up_suc m p = rw (visible-at-is t.rows m) refl

  -- One row more.
  grows : (m j x : ℕ) → m < length t.rows →
      cond (is_shown t.rows j && up m (parent_at t.rows j)) x 0 + cond (visible_at t.rows m && under t.rows (doc_at t.rows m) j) x 0
      ≡ cond (is_shown t.rows j && up (suc m) (parent_at t.rows j)) x 0
  grows m j x l =
      let rows = t.rows in
      let tree = tree_of sound word in
      let p = parent_at rows j in
      rw (up_suc m p) (test (eqb (doc_at rows m) p)
      (λ y.
      let e : doc_at rows m ≡ p = eqb-true _ _ y in
      let n : eqb p none ≡ false = ne_eqb p none (λ z. proper tree m l (e ∙ z)) in
      let c : climb false (visible_ask rows) rows m p ≡ false =
      climb-none false (visible_ask rows) rows m p (λ i a q. let z = distinct tree i m (omega arith) l (q ∙ sym e) in omega arith) in
      rw (n, c, y, eq-eqb p (doc_at rows m) (sym e)) (small-yes (is_shown rows j) (visible_at rows m) x))
      (λ y.
      let e = eqb-false (doc_at rows m) p y in
      rw (y, ne_eqb p (doc_at rows m) (λ z. e (sym z))) (small-no (is_shown rows j) (visible_at rows m) (up m p) x)))

  -- What is beneath a visible row.
  spread : (v : Bool) (k m : ℕ) → suc m + k ≡ length t.rows →
      cond v (whole m) 0 ≡ cond v (w (doc_at t.rows m)) 0 + after (λ j. cond (v && under t.rows (doc_at t.rows m) j) (whole j) 0) (suc m) k
  spread true k m e = whole_is m ∙ ap (λ x. w (doc_at t.rows m) + x) (inside-all k (suc m) (doc_at t.rows m) e)
  spread false k m e = omega (arith, after-zero (λ j. cond (false && under t.rows (doc_at t.rows m) j) (whole j) 0) k (suc m) (λ j. refl))

  -- The rows from m on whose parent is none or visible before m weigh what the visible rows from m on do.
  reaches : (k m : ℕ) → m + k ≡ length t.rows →
      after (λ j. cond (is_shown t.rows j && up m (parent_at t.rows j)) (whole j) 0) m k ≡ after (λ j. cond (visible_at t.rows j) (w (doc_at t.rows j)) 0) m k
  unfolding after
  reaches zero m e = refl
  reaches (suc k) m e =
      let here = ap (λ b. cond b (whole m) 0) (visible-at-is t.rows m) in
      let ih = reaches k (suc m) (omega arith) in
      let s = spread (visible_at t.rows m) k m (omega arith) in
      let g = after-add _ _ _ k (suc m) (λ j a b. grows m j (whole j) (omega arith)) in
      omega (arith, here, ih, s, g)

  pub outline-weighs : weigh w (outline_of t) ≡ sum (λ j. cond (visible_at t.rows j) (w (doc_at t.rows j)) 0) (length t.rows)
  unfolding climb
  outline-weighs =
      let n = length t.rows in
      let e : 0 + n ≡ n = omega arith in
      ap (weigh w) (sym (outline-code t none refl)) ∙ inside-all n 0 none e
      ∙ after_same _ _ n 0 (λ j. rw or-false refl)
      ∙ reaches n 0 e
      ∙ after-all (λ j. cond (visible_at t.rows j) (w (doc_at t.rows j)) 0) n
