-- W-207 over bytes: what a game sheet means with holding gates, and when two sheets mean the same. Assumes nothing.
use Rattle.std.specs.Prelude.{ℕ, ◌<◌, ◌≡◌, ◌⊎◌, List}
use Rattle.theory.specs.Game.{Target, absent, to}
use Rattle.sheet.specs.Bodies.{header_body, positions_body, targets_body, moves_body, is_holding, start_of, action_count, delay_of}
use Rattle.sheet.specs.SheetGame.{target_of, moves_of, game_by, game_of}

-- where an action leads from a position by the C lines as they are written
abbrev pub line_target : List ℕ → ℕ → ℕ → Target
line_target s = target_of (targets_body s)

-- "every own position with a move for command 0 uses that target for each missing command": lines keep their targets, a missing action of
-- the yard leads where action 0 does, positions without action 0 stay as they are, and there is no other target; nothing else differs
pub record Holds (s : List ℕ) : Type 0 where
  pub written : (p c q : ℕ) → line_target s p c ≡ to q → (game_of s).target p c ≡ to q
  pub missing : (p c q : ℕ) → line_target s p c ≡ absent → c < action_count s → line_target s p 0 ≡ to q → (game_of s).target p c ≡ to q
  pub nothing : (p c : ℕ) → line_target s p 0 ≡ absent → (game_of s).target p c ≡ line_target s p c
  pub no_more : (p c q : ℕ) → (game_of s).target p c ≡ to q → (line_target s p c ≡ to q) ⊎ ((c < action_count s) × (line_target s p 0 ≡ to q))
  pub rest : game_of s ≡ game_by (positions_body s) (start_of s) (action_count s) (game_of s).target (moves_of (moves_body s))

-- two sheets with the same S, P, C and U bodies, and both with holding gates or neither: one may have a G body of 0 and the other none
pub record SameBodies (s t : List ℕ) : Type 0 where
  pub header : header_body s ≡ header_body t
  pub positions : positions_body s ≡ positions_body t
  pub targets : targets_body s ≡ targets_body t
  pub moves : moves_body s ≡ moves_body t
  pub holding : is_holding s ≡ is_holding t

-- two sheets that mean the same yard at the same lag, whatever their gates: one may write out what the other's gates hold
pub record SameYard (s t : List ℕ) : Type 0 where
  pub game : game_of s ≡ game_of t
  pub delay : delay_of s ≡ delay_of t
