-- The level and the game of an accepted reading. Assumes nothing.
use mathlib.Core.Path.{◌≡◌, ◌∙◌}
use mathlib.Core.List.{List}
use Prim.Native.Nat.{ℕ}
use lib.ListN.{length}
use Rattle.theory.specs.Answer.{accepted}
use Rattle.sheet.specs.Form.{part_at}
use Rattle.sheet.specs.Bodies.{positions_body}
use Rattle.reader.specs.Reading.{read_answer}
use Rattle.sheet.specs.Refusals.{answer_of}
use Rattle.sheet.specs.declared.refusal.Refusal.{Refusal}
use Rattle.sheet.specs.SheetGame.{game_of}
use Rattle.sheet.specs.code.Arrays.{firsts_of, view_of, bodies_game}
use Rattle.reader.specs.code.Laid.{grid_at}
use Rattle.reader.specs.declared.reading.Layout.{Layout}
use Rattle.std.proofs.Common.{Result, Ok}
use Rattle.reader.proofs.Accepted.{read_is, read_accepted, ranges, few_nodes, carries}
use Rattle.reader.proofs.Bodies.{laid_game}
use Rattle.walk.specs.declared.level.Level.{Level}
use Rattle.walk.specs.code.Levels.{Room, level_at, level_to}
use Rattle.walk.specs.code.Nodes.{Sized}
use Rattle.walk.proofs.LevelLaws.{level_whole, level_sized}

module _ (s : List ℕ) (rd : Result Layout Refusal) (e : answer_of rd ≡ read_answer s) (l : Layout) (a : rd ≡ Ok l) (p : List ℕ)
    (ep : p ≡ part_at s l.positions) where
  answered : read_answer s ≡ accepted l
  answered = read_accepted s rd e l a

  positions_is : p ≡ positions_body s
  positions_is = ep ∙ (carries s l answered).positions_part

  pub room_read : Room (length p) l.actions l.delay
  room_read =
      let r = ranges s (read_is s l answered).0 in
      let c = carries s l answered in
      rw (positions_is, c.actions, c.delay)
      (record {
        some_position = r.some_position;
        few_positions = r.few_positions;
        some_action = r.some_action;
        few_actions = r.few_actions;
        few_nodes = few_nodes s l answered;
      })

  pub game_read : (g : List (List ℕ)) (u : List ℕ) → g ≡ grid_at s l → u ≡ part_at s l.moves
      → bodies_game p g u l.start l.actions ≡ game_of s
  game_read g u eg eu = rw (ep, eg, eu) (laid_game s l answered)

  pub view_read : (g : List (List ℕ)) (u f : List ℕ) → g ≡ grid_at s l → u ≡ part_at s l.moves → f ≡ firsts_of u
      → view_of p g u f l.start l.actions ≡ game_of s
  unfolding bodies_game
  view_read g u f eg eu ef = rw ef (game_read g u eg eu)

  module _ (v : Level) (made : v ≡ level_to (length p) l.start l.actions l.delay) where
    pub is_level : v ≡ level_at (length p) l.start l.actions l.delay
    is_level = made ∙ level_whole room_read l.start

    pub sized_read : Sized (length p) v
    sized_read = rw is_level (level_sized room_read l.start)
