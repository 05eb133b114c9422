-- The last thousand pieces (document 02, request 12): "Keep, over a run of answers, the count of each answer word and of commits
-- for each rule, for the last 1,000 or for all if fewer came."
use Rattle.std.specs.Prelude.{ℕ, ◌-◌, Bool, cond, ◌&&◌, ◌||◌, List, length, drop, ◌==◌, nat_le}
use Rattle.basics.specs.Lists.{filter}

-- An answer as it is fed: the number of its word, 1 commit, 2 execute, 3 suspend, 4 fail, and its rule.
pub record Given : Type 0 where
  pub word : ℕ
  pub rule : ℕ

abbrev pub given : ℕ → ℕ → Given
given w i = record { word = w; rule = i }

abbrev pub is_commit : Given → Bool
is_commit g = g.word == 1

abbrev pub is_execute : Given → Bool
is_execute g = g.word == 2

abbrev pub is_suspend : Given → Bool
is_suspend g = g.word == 3

abbrev pub is_fail : Given → Bool
is_fail g = g.word == 4

-- "An answer whose rule is not 1 to 64 for commit or execute, or not 0 for the others, is refused (36)": any other is taken. A
-- word that is none of the four is no answer, and is refused too.
unfoldable pub is_taken : Given → Bool
is_taken g =
    ((is_commit g || is_execute g) && (nat_le 1 g.rule && nat_le g.rule 64))
    || ((is_suspend g || is_fail g) && g.rule == 0)

-- The number of the refusal, 0 where the answer is taken.
abbrev pub refusal_of : Given → ℕ
refusal_of g = cond (is_taken g) 0 36

-- A refused answer "counts as never fed".
abbrev pub taken : List Given → List Given
taken answers = filter is_taken answers

-- The last n of a list, or all of it if it has fewer.
unfoldable pub last_of : {A : Type 0} → ℕ → List A → List A
last_of n xs = drop (length xs - n) xs

-- "For the last 1,000 or for all if fewer came": of the answers that were taken.
abbrev pub last_thousand : List Given → List Given
last_thousand answers = last_of 1000 (taken answers)

-- How many of a list are such.
unfoldable pub count_of : {A : Type 0} → (A → Bool) → List A → ℕ
count_of such xs = length (filter such xs)

-- "The count of each answer word": commit, execute, suspend and fail.
abbrev pub commit_count : List Given → ℕ
commit_count answers = count_of is_commit (last_thousand answers)

abbrev pub execute_count : List Given → ℕ
execute_count answers = count_of is_execute (last_thousand answers)

abbrev pub suspend_count : List Given → ℕ
suspend_count answers = count_of is_suspend (last_thousand answers)

abbrev pub fail_count : List Given → ℕ
fail_count answers = count_of is_fail (last_thousand answers)

-- "And of commits for each rule"; an execute is counted by its word alone.
abbrev pub commits_of : ℕ → List Given → ℕ
commits_of i answers = count_of (λ g. is_commit g && g.rule == i) (last_thousand answers)
