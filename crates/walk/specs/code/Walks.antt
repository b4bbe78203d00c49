-- What the walk over a node's actions and moves goes through, and when it spoils. Assumes nothing.
use Rattle.std.specs.Prelude.{ℕ, suc, ◌+◌, ◌*◌, ◌/◌, ◌%◌, Bool, true, false, cond, List, ltb, leb, get_or, length, Option, Some, None}
use Rattle.theory.specs.Fold.{both, all_below}
use Rattle.theory.specs.Game.{Target, absent, to}
use Rattle.theory.specs.Delay.{with_word}
use Rattle.sheet.specs.Kinds.{safe_at}
use Rattle.walk.specs.declared.level.Level.{Level}
use Rattle.walk.specs.declared.walk.Choice.{Choice}
use Rattle.sheet.specs.code.Arrays.{target_at, to_at}
use Rattle.theory.specs.Rounds.{bad, spoilt_by}
use Rattle.walk.specs.code.Levels.{arena_of}
use Rattle.walk.specs.code.Nodes.{is_node}

-- "fallen in rounds 1 to n". In a list that is half updated too: what falls now has n + 1
unfoldable pub fallen_by : ℕ → List ℕ → ℕ → Bool
fallen_by n marks k = both (ltb 0 (get_or marks k 0)) (leb (get_or marks k 0) n)

-- action h is played, the word w is pending after it, and the environment moves from q
abbrev pub moving_from : List ℕ → ℕ → ℕ → ℕ → Choice
moving_from f h w q = record { action = h; rest = w; first = get_or f q 0; end = get_or f (suc q) 0 }

-- even delays: h has this target; none where it is spoilt before the environment moves
unfoldable pub moves_after : List ℕ → List ℕ → ℕ → ℕ → Target → Option Choice
moves_after p f h w absent = None
moves_after p f h w (to q) = cond (safe_at p q) (Some (moving_from f h w q)) None

-- by parity (true: odd), at position q
unfoldable pub played_at : Bool → List ℕ → List (List ℕ) → List ℕ → ℕ → ℕ → ℕ → Option Choice
played_at true p g f q h w = Some (moving_from f h w q)
played_at false p g f q h w = moves_after p f h w (target_at g q h)

-- at position q with the joined word j, whose oldest action is played
unfoldable pub choice_at : List ℕ → List (List ℕ) → List ℕ → Level → ℕ → ℕ → Option Choice
choice_at p g f l q j = played_at l.odd p g f q (j / l.words) (j % l.words)

-- the outcome, by parity, of the environment's move to r
unfoldable pub outcome_by : Bool → List ℕ → List (List ℕ) → ℕ → ℕ → ℕ → ℕ → Target
outcome_by true p g m h w r = cond (safe_at p r) (with_word m w (target_at g r h)) absent
outcome_by false p g m h w r = to (r * m + w)

unfoldable pub outcome_at : List ℕ → List (List ℕ) → Level → Choice → ℕ → Target
outcome_at p g l x r = outcome_by l.odd p g l.words x.action x.rest r

-- "the test's condition as it stands" (W-203), on a line: the environment's move there spoils the choice
unfoldable pub spoils_on : List ℕ → List (List ℕ) → List ℕ → Level → (ℕ → Bool) → Choice → ℕ → Bool
spoils_on p g u l fallen x line = bad fallen (outcome_at p g l x (to_at u line))

-- action c is spoilt at node k of the arrays' arena, what has fallen being the nodes marked 1 to n
abbrev pub spoilt_in : List ℕ → List (List ℕ) → List ℕ → List ℕ → Level → List ℕ → ℕ → ℕ → ℕ → Bool
spoilt_in p g u f l marks n k = spoilt_by (arena_of p g u f l) (fallen_by n marks) k

-- so is every action
abbrev pub all_spoilt_in : List ℕ → List (List ℕ) → List ℕ → List ℕ → Level → List ℕ → ℕ → ℕ → Bool
all_spoilt_in p g u f l marks n k = all_below (spoilt_in p g u f l marks n k) l.actions

-- the same for any numbers: a node or an action that does not exist is not spoilt
abbrev pub spoilt_answer : List ℕ → List (List ℕ) → List ℕ → List ℕ → Level → List ℕ → ℕ → ℕ → ℕ → Bool
spoilt_answer p g u f l marks n k c =
    both (is_node (length p) l k) (both (ltb c l.actions) (spoilt_in p g u f l marks n k c))

abbrev pub all_spoilt_answer : List ℕ → List (List ℕ) → List ℕ → List ℕ → Level → List ℕ → ℕ → ℕ → Bool
all_spoilt_answer p g u f l marks n k = both (is_node (length p) l k) (all_spoilt_in p g u f l marks n k)
