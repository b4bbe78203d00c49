-- W-201 over bytes, as the customer reads it: "the number of positions that lie on some play from the start". Assumes nothing.
use Rattle.std.specs.Prelude.{ℕ, ◌≡◌, Bool, true, List, ◌↔◌}
use Rattle.theory.specs.Fold.{count}
use Rattle.theory.specs.Reach.{OnPlay}
use Rattle.sheet.specs.SheetGame.{game_of}

-- f is true exactly of the positions that lie on plays of a sheet's game
abbrev pub TellsPlays : List ℕ → (ℕ → Bool) → Type 0
TellsPlays s f = (q : ℕ) → (f q ≡ true) ↔ OnPlay (game_of s) q

-- n is their number: some test tells them, and by any that does there are n
pub record Reaches (s : List ℕ) (n : ℕ) : Type 0 where
  pub test : ℕ → Bool
  pub tells : TellsPlays s test
  pub number : (f : ℕ → Bool) → TellsPlays s f → count f (game_of s).positions ≡ n
