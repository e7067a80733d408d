-- Histories with the same documents and relations: laws of 001's model. Assumes nothing.
use Prim.Native.Nat.{ℕ}
use mathlib.Core.List.{List, [], ◌∷◌}
use mathlib.Core.Logic.{◌⊎◌, inl, inr, ⊎_elim, ◌↔◌, ◌≢◌}
use lib.IntN.{ℤ, pos, negsuc}
use Rattle.demands.specs.Model.{History, Earlier, Future, JointFuture, JointPast, CanGoBack, traversing_to, Same, Leads, ToEach, FromEach, Traverses}

pub same_refl : (H : History) → Same H H
same_refl H = record { D = λ d. (λ x. x, λ x. x); A = λ d. (λ x. x, λ x. x); child = λ d e. (λ x. x, λ x. x); le = λ d e. (λ x. x, λ x. x); sim = λ d e. (λ x. x, λ x. x) }

pub same-trans : {H K L : History} → Same H K → Same K L → Same H L
same-trans s t =
    record {
      D = λ d. (λ x. (t.D d).0 ((s.D d).0 x), λ x. (s.D d).1 ((t.D d).1 x));
      A = λ d. (λ x. (t.A d).0 ((s.A d).0 x), λ x. (s.A d).1 ((t.A d).1 x));
      child = λ d e. (λ x. (t.child d e).0 ((s.child d e).0 x), λ x. (s.child d e).1 ((t.child d e).1 x));
      le = λ d e. (λ x. (t.le d e).0 ((s.le d e).0 x), λ x. (s.le d e).1 ((t.le d e).1 x));
      sim = λ d e. (λ x. (t.sim d e).0 ((s.sim d e).0 x), λ x. (s.sim d e).1 ((t.sim d e).1 x));
    }

pub same-sym : {H K : History} → Same H K → Same K H
same-sym s =
    record {
      D = λ d. ((s.D d).1, (s.D d).0);
      A = λ d. ((s.A d).1, (s.A d).0);
      child = λ d e. ((s.child d e).1, (s.child d e).0);
      le = λ d e. ((s.le d e).1, (s.le d e).0);
      sim = λ d e. ((s.sim d e).1, (s.sim d e).0);
    }

to_same : {H K : History} → Same H K → (d : ℕ) → Same (traversing_to H d) (traversing_to K d)
to_same s d =
    record {
      D = s.D;
      A = λ e. (⊎_elim (λ x. inl (λ y. x.0 ((s.sim d e).1 y), (s.A e).0 x.1)) inr, ⊎_elim (λ x. inl (λ y. x.0 ((s.sim d e).0 y), (s.A e).1 x.1)) inr);
      child = s.child;
      le = s.le;
      sim = s.sim;
    }

-- The same histories traverse alike, by way of each and from each.
pub through_same : (ds : List ℕ) {H K : History} (L : History) → Same H K → ToEach ds K L → ToEach ds H L
through_same [] L s t = same-trans s t
through_same (d ∷ ds) L s t = through_same ds L (to_same s d) t

earlier-here : {H K : History} → Same H K → (d e : ℕ) → Earlier K d e → Earlier H d e
earlier-here s d e a = ((s.le d e).1 a.0, a.1)

future-there : {H K : History} → Same H K → (d e : ℕ) → Future H d e → Future K d e
future-there s d e a = ((s.sim d e).0 a.0, ((s.le d e).0 a.1.0, a.1.1))

future-here : {H K : History} → Same H K → (d e : ℕ) → Future K d e → Future H d e
future-here s d e a = ((s.sim d e).1 a.0, ((s.le d e).1 a.1.0, a.1.1))

pub back-same : (ds : List ℕ) {H K : History} (L : History) → Same H K → FromEach ds K L → FromEach ds H L
back-same [] L s t = same-trans s t
back-same (d ∷ ds) L s t =
    (t.0, (future-here s t.0 d t.1.0, λ e a. (s.le e t.0).1 (t.1.1 e (future-there s e d a))), back-same ds L (to_same s t.0) t.2)

-- Where a traversal ends is known up to sameness.
through-end : (ds : List ℕ) (H K L : History) → ToEach ds H K → Same K L → ToEach ds H L
through-end [] H K L t s = same-trans t s
through-end (d ∷ ds) H K L t s = through-end ds (traversing_to H d) K L t s

back_end : (ds : List ℕ) (H K L : History) → FromEach ds H K → Same K L → FromEach ds H L
back_end [] H K L t s = same-trans t s
back_end (d ∷ ds) H K L t s = (t.0, t.1, back_end ds (traversing_to H t.0) K L t.2 s)

-- The same set begins alike.
pub leads-same : (R : ℕ → ℕ → Type 0) (ds : List ℕ) (P Q : ℕ → Type 0) → ((e : ℕ) → P e ↔ Q e) → Leads R P ds → Leads R Q ds
leads-same R [] P Q h l = tt
leads-same R (d ∷ ds) P Q h l = (
  (h d).0 l.0,
  λ e q. l.1 e ((h e).1 q),
  leads-same R ds (λ e. P e × (d ≢ e)) (λ e. Q e × (d ≢ e)) (λ e. (λ x. ((h e).0 x.0, x.1), λ x. ((h e).1 x.0, x.1))) l.2,
)

leads-order : (R Q : ℕ → ℕ → Type 0) (ds : List ℕ) (P : ℕ → Type 0) → ((d e : ℕ) → R d e → Q d e) → Leads R P ds → Leads Q P ds
leads-order R Q [] P h l = tt
leads-order R Q (d ∷ ds) P h l = (l.0, λ e p. ⊎_elim inl (λ r. inr (h d e r)) (l.1 e p), leads-order R Q ds (λ e. P e × (d ≢ e)) h l.2)

-- The same histories traverse by δ alike.
pub traverses-same : (δ : ℤ) {H K : History} (L : History) → Same H K → Traverses δ K L → Traverses δ H L
traverses-same (pos k) {H} {K} L s t = (
  t.0,
  t.1,
  leads-order (Earlier K) (Earlier H) t.0 (JointFuture H) (earlier-here s)
      (leads-same (Earlier K) t.0 (JointFuture K) (JointFuture H) (λ e. (
        λ x. (x.0, (s.A x.0).1 x.1, future-here s x.0 e x.2),
        λ x. (x.0, (s.A x.0).0 x.1, future-there s x.0 e x.2),
      )) t.2),
  through_same t.0 L s t.3,
)
traverses-same (negsuc k) {H} {K} L s t = (
  t.0,
  t.1,
  leads-order (λ d e. Earlier K e d) (λ d e. Earlier H e d) t.0 _ (λ d e. earlier-here s e d)
      (leads-same (λ d e. Earlier K e d) t.0 (λ e. (JointPast K e ⊎ K.A e) × CanGoBack K e) (λ e. (JointPast H e ⊎ H.A e) × CanGoBack H e) (λ e. (
        λ x. (
          ⊎_elim (λ y. inl (y.0, (s.A y.0).1 y.1, future-here s e y.0 y.2)) (λ y. inr ((s.A e).1 y)) x.0,
          (x.1.0, future-here s x.1.0 e x.1.1),
        ),
        λ x. (
          ⊎_elim (λ y. inl (y.0, (s.A y.0).0 y.1, future-there s e y.0 y.2)) (λ y. inr ((s.A e).0 y)) x.0,
          (x.1.0, future-there s x.1.0 e x.1.1),
        ),
      )) t.2),
  back-same t.0 L s t.3,
)

pub traverses-end : (δ : ℤ) (H K L : History) → Traverses δ H K → Same K L → Traverses δ H L
traverses-end (pos k) H K L t e = (t.0, t.1, t.2, through-end t.0 H K L t.3 e)
traverses-end (negsuc k) H K L t e = (t.0, t.1, t.2, back_end t.0 H K L t.3 e)
