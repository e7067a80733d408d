-- The numbers below a bound and a test of them: what "some", "every", "how many", "the earliest" and "the latest" mean.
use Rattle.std.specs.Prelude.{ℕ, zero, suc, ◌+◌, Bool, true, false, ◌&&◌, ◌||◌, cond, List, [], ◌∷◌, ◌++◌}

-- Some number below n passes.
unfoldable pub some_below : ℕ → (ℕ → Bool) → Bool
some_below zero p = false
some_below (suc n) p = some_below n p || p n

-- Every number below n passes.
unfoldable pub all_below : ℕ → (ℕ → Bool) → Bool
all_below zero p = true
all_below (suc n) p = all_below n p && p n

-- How many numbers below n pass.
unfoldable pub count : (ℕ → Bool) → ℕ → ℕ
count p zero = 0
count p (suc n) = cond (p n) (suc (count p n)) (count p n)

-- The earliest number below n that passes; n where none does.
unfoldable pub earliest : (ℕ → Bool) → ℕ → ℕ
earliest p zero = 0
earliest p (suc n) = cond (some_below n p) (earliest p n) (cond (p n) n (suc n))

-- The latest number below n that passes; 0 where none does.
unfoldable pub latest : (ℕ → Bool) → ℕ → ℕ
latest p zero = 0
latest p (suc n) = cond (p n) n (latest p n)

-- f 0 + f 1 + .. + f (n - 1).
unfoldable pub sum : (ℕ → ℕ) → ℕ → ℕ
sum f zero = 0
sum f (suc n) = sum f n + f n

module _ {A : Type 0} where
  -- f 0, f 1, .., f (n - 1).
  unfoldable pub tab : ℕ → (ℕ → A) → List A
  tab zero f = []
  tab (suc n) f = tab n f ++ f n ∷ []

  -- What those of the numbers below n give that pass, in order.
  unfoldable pub gather : (ℕ → Bool) → (ℕ → A) → ℕ → List A
  gather p f zero = []
  gather p f (suc n) = cond (p n) (gather p f n ++ f n ∷ []) (gather p f n)

-- The numbers below n that pass, rising.
abbrev pub rising : (ℕ → Bool) → ℕ → List ℕ
rising p n = gather p (λ k. k) n
