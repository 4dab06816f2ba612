-- WHERE THE READING OF AN LV RAN SHORT (document 02, Q-2): it starts at the place `at`, what was found there reaches to the place `end`, and more was
-- expected.
use Rattle.std.specs.Prelude.{◌≡◌, ℕ, ◌+◌, ◌<◌}

pub record ShortLv (at end place found expected : ℕ) : Type 0 where
  pub starts : place ≡ at
  pub reaches : place + found ≡ end
  pub more : found < expected
