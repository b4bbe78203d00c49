-- Every case of specs/cases/Starred.antt holds of the definitions, by computation; and demand 3 is not empty: it holds of the sorting hall
-- with a rule and a list of calls. Assumes nothing.
use Prim.Native.Nat.{ℕ, zero, suc, ◌-◌, ◌<◌}
use mathlib.Core.Path.{◌≡◌, refl}
use mathlib.Core.Bool.{false}
use mathlib.Core.Logic.{⊎_elim}
use mathlib.Core.List.Memᴰ
use mathlib.Core.List.{List, [], ◌∷◌, map, Memᴰ}
use native.Mathlib.Omega.{arith}
use lib.ListN.{length, get_or}
use borrow.Author.Tests.{leb-true}
use Rattle.theory.specs.Answer.{accepted}
use Rattle.theory.specs.Game.{Game, Legal, to}
use Rattle.theory.specs.Play.{Play, IsPlay, last, IsRule}
use Rattle.theory.proofs.Fold.{not_both}
use Rattle.theory.proofs.Plays.{play_position}
use Rattle.reader.specs.cases.Yards.{hall}
use Rattle.sheet.specs.SheetGame.{game_of}
use Rattle.maker.proofs.Made.{making_won}
use Rattle.maker.specs.Making.{won, make_answer}
use Rattle.controller.specs.Accuracy.{begun, Truthful, Accurate}
use Rattle.claims.proofs.Accuracy.{made_accuracy}
use Rattle.theory.specs.cases.Games.{result_by}
use Rattle.claims.specs.cases.Starred.{last_move, positions_of, replies_to, answers_by, plays_by, computed, alternating, starred, controller_cases, packet_cases, cases, hall_table, hall_calls}
use Rattle.claims.proofs.Computing.{claims_compute}

pub cases_met : map computed cases ≡ map accepted cases
unfolding claims_compute result_by last_move positions_of replies_to answers_by plays_by computed alternating starred controller_cases packet_cases
cases_met = refl

-- a yard position of a play has a move, and the rule of the last move is one of the yard's
pub member_at : (l : List ℕ) (i : ℕ) → i < length l → Memᴰ (get_or l i 0) l
member_at [] i h = absurd (omega arith)
member_at (a ∷ l) zero h = Memᴰ.head refl
member_at (a ∷ l) (suc i) h = Memᴰ.tail (member_at l i (omega arith))

some_member : (l : List ℕ) (r : ℕ) → Memᴰ r l → 0 < length l
some_member [] r m = absurd (Memᴰ.not-nil m)
some_member (a ∷ l) r m = omega arith

pub some_move : (G : Game) → Legal G → (π : Play) → IsPlay G π → G.controller (last G π) ≡ false → 0 < length (G.moves (last G π))
some_move G legal π p e =
    ⊎_elim
    (λ (o : (c : ℕ) × (q : ℕ) × (G.target (last G π) c ≡ to q)).
    absurd (not_both (legal.targets _ o.0 o.1 o.2).from_controller e))
    (λ (m : (r : ℕ) × Memᴰ r (G.moves (last G π))). some_member _ m.0 m.1)
    (legal.live (last G π) (play_position legal p))

pub last_rule : (G : Game) → Legal G → IsRule G (last_move G)
unfolding last_move
last_rule G legal π p e =
    let some = some_move G legal π p e in
    member_at (G.moves (last G π)) (length (G.moves (last G π)) - 1) (omega arith)

pub hall_made : make_answer (hall 2) 14 14 49 ≡ accepted (won hall_table)
unfolding claims_compute hall_table
hall_made = refl

hall_true : Truthful (game_of (hall 2)) hall_table (last_move (game_of (hall 2))) begun hall_calls
unfolding claims_compute last_move hall_table hall_calls
hall_true = (
  tt,
  (
    λ l u. (leb-true 0 2 refl, refl),
    (
      λ l u. (leb-true 0 2 refl, refl),
      (
        tt,
        (
          λ l u. (leb-true 4 4 refl, refl),
          (
            tt,
            (
              λ l u. (leb-true 2 4 refl, refl),
              (
                λ l u. absurd (omega arith),
                (
                  λ l u. absurd (omega arith),
                  (
                    λ l u. (leb-true 3 4 refl, refl),
                    (
                      tt,
                      (
                        tt,
                        (
                          tt,
                          (
                            (λ l u. (leb-true 8 8 refl, refl), (λ l u. (leb-true 6 8 refl, refl), (λ l u. (leb-true 6 8 refl, refl), tt))),
                            ((λ l u. (leb-true 7 8 refl, refl), (λ l u. absurd (omega arith), tt)), (tt, tt)),
                          ),
                        ),
                      ),
                    ),
                  ),
                ),
              ),
            ),
          ),
        ),
      ),
    ),
  ),
)

-- demand 3 holds of the hall with this rule and these calls, from the bytes alone
pub hall_accurate : Accurate (game_of (hall 2)) hall_table (last_move (game_of (hall 2))) hall_calls
hall_accurate =
    made_accuracy (hall 2) 14 14 49 hall_table hall_made (last_move (game_of (hall 2)))
    (last_rule (game_of (hall 2)) (making_won (hall 2) 14 14 49 hall_table hall_made).ranged.legal) hall_calls hall_true
