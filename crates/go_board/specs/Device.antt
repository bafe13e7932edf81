-- What devices take and give, and how often they fail or end.
use Rattle.std.specs.Prelude.{ℕ, ◌+◌, ◌≡◌, ◌==◌, ◌&&◌, nat_lt, if◌then◌else◌, List, ◌++◌, Option, option_map, Result, Ok, Err, MatchResult, is_err}

-- the bytes known of a device, after more of them
abbrev pub then_bytes : Option (List ℕ) → List ℕ → Option (List ℕ)
then_bytes known more = option_map (λ xs. xs ++ more) known

-- the bytes known of a device, with these before them
abbrev pub after_bytes : List ℕ → Option (List ℕ) → Option (List ℕ)
after_bytes first known = option_map (λ xs. first ++ xs) known

-- a device that took a prefix of a text, and nothing else
pub record TakesPrefix (old new : Option (List ℕ)) (text : List ℕ) : Type 0 where
  pub prefix : List ℕ
  pub rest : List ℕ
  pub whole : text ≡ prefix ++ rest
  pub taken : new ≡ then_bytes old prefix

-- a text that was sent: taken whole, or a prefix of it where that failed
abbrev pub Sent : {T E : Type 0} → Result T E → Option (List ℕ) → Option (List ℕ) → List ℕ → Type 0
Sent r old new text = MatchResult r (λ _. new ≡ then_bytes old text) (λ _. TakesPrefix old new text)

-- the count of failures after a call with this result: one more where it failed
abbrev pub failures_after : {T E : Type 0} → Result T E → ℕ → ℕ
failures_after r old = if is_err r then old + 1 else old

-- the count of failures after a put of some bytes: one more where it failed, or took none of them
abbrev pub put_failures_after : {E : Type 0} → Result ℕ E → ℕ → ℕ → ℕ
put_failures_after (Ok n) len old = if n == 0 && nat_lt 0 len then old + 1 else old
put_failures_after (Err e) len old = old + 1

-- the count of ends found after a read into a buffer: one more where the buffer has room and it gave no byte
abbrev pub ends_after : {E : Type 0} → Result ℕ E → ℕ → ℕ → ℕ
ends_after (Ok n) len old = if n == 0 && nat_lt 0 len then old + 1 else old
ends_after (Err e) len old = old
