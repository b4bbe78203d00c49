-- What an accepted making says: the sheet is the game's own, a winning one is readable, and it fits the output that check 9
-- asks for. Assumes nothing.
use Prim.Native.Nat.{ℕ, ◌+◌, ◌*◌, ◌/◌, ◌≤◌}
use mathlib.Core.Path.{◌≡◌, sym, ap, ◌∙◌}
use mathlib.Core.Bool.{true}
use mathlib.Core.List.{List}
use native.Mathlib.Omega.{arith}
use native.Mathlib.Nat.{mul-le-mul_left, pow-le-pow_right}
use lib.ListN.{length}
use borrow.Author.Tests.{leb-true}
use Rattle.theory.specs.Answer.{accepted}
use Rattle.theory.specs.Game.{Game, Legal}
use Rattle.theory.specs.Rounds.{final_ranks}
use Rattle.theory.specs.Delay.{Verdict, wins, losing, winning, words, arena, answer}
use Rattle.theory.proofs.Answer.{check_accepted, accepted_on, accepted_same}
use Rattle.theory.proofs.Rounds.{final_length}
use Rattle.theory.proofs.Tables.{legal_actions}
use Rattle.sheet.specs.Bodies.{delay_of}
use Rattle.reader.specs.Reading.{read_answer}
use Rattle.sheet.specs.SheetGame.{game_of}
use Rattle.reader.specs.declared.reading.Layout.{Layout}
use Rattle.solver.specs.Solving.{solve_answer}
use Rattle.table.specs.TableSheet.{table_answer}
use Rattle.writer.specs.SheetBytes.{header_of, rank_sheet}
use Rattle.writer.proofs.Readable.{Ranged, sheet_ranged}
use Rattle.writer.proofs.WriteLaws.{rank_size}
use Rattle.maker.specs.Making.{table_sheet_of, rank_sheet_of, Made, won, made_of, output_size, make_answer}
use Rattle.theory.proofs.Monotone.{wins_winning}
use Rattle.maker.proofs.Readable.{table_for, table_sheet_length, made_readable}

-- an accepted making that won
pub record Won (s t : List ℕ) : Type 0 where
  pub ranged : Ranged (game_of s) (delay_of s)
  pub wins : winning (game_of s) (delay_of s) ≡ true
  pub sheet : t ≡ table_sheet_of (game_of s) (delay_of s)
  pub reads : table_answer t ≡ accepted (table_for (game_of s) (delay_of s))

made_won : (G : Game) (d : ℕ) (v : Verdict) (t : List ℕ) → made_of G d v ≡ won t → (v ≡ wins) × (t ≡ table_sheet_of G d)
unfolding made_of
made_won G d wins t e = (cc, cc)
made_won G d (losing m) t e = let z : ◌≡◌ {A = ℕ} 0 1 = cc in absurd (omega arith)

-- the parts of an accepted making
pub record MadeParts (s : List ℕ) (output_room : ℕ) (x : Made) : Type 0 where
  pub layout : Layout
  pub reads : read_answer s ≡ accepted layout
  pub made : x ≡ made_of (game_of s) (delay_of s) (answer (game_of s) (delay_of s))
  pub room : output_size (game_of s) (delay_of s) ≤ output_room

module _ (s : List ℕ) (masks_room ranks_room output_room : ℕ) where
  pub made_parts : (x : Made) → make_answer s masks_room ranks_room output_room ≡ accepted x → MadeParts s output_room x
  unfolding make_answer solve_answer
  made_parts x e =
      let a = accepted_on _ _ e in
      let b = accepted_on _ _ a.1 in
      let c = check_accepted _ _ _ a.2 in
      let v = check_accepted _ _ _ b.2 in
      record {
        layout = b.0;
        reads = b.1;
        made =
            sym (accepted_same c.1)
            ∙ ap (λ y. made_of (game_of s) (delay_of s) y.verdict) (sym (accepted_same v.1));
        room = leb-true _ _ c.0;
      }

  pub making_won : (t : List ℕ) → make_answer s masks_room ranks_room output_room ≡ accepted (won t) → Won s t
  making_won t e =
      let m = made_parts (won t) e in
      let r = sheet_ranged s m.layout m.reads in
      let w = made_won (game_of s) (delay_of s) (answer (game_of s) (delay_of s)) t (sym m.made) in
      let v = wins_winning (game_of s) (delay_of s) w.0 in
      record {
        ranged = r;
        wins = v;
        sheet = w.1;
        reads = ap table_answer w.1 ∙ made_readable (game_of s) (delay_of s) r v;
      }

-- the made sheets fit

rank_sheet_length : (G : Game) (m : ℕ) → length (rank_sheet_of G m) ≡ 14 + 2 * (arena G m).nodes
unfolding rank_sheet_of rank_sheet header_of
rank_sheet_length G m = rank_size (header_of G m) (final_ranks (arena G m)) ∙ rw (final_length (arena G m)) (omega arith)

pub nodes_more : (G : Game) → Legal G → (m d : ℕ) → m ≤ d → (arena G m).nodes ≤ (arena G d).nodes
unfolding arena words
nodes_more G legal m d h =
    let half : m / 2 ≤ d / 2 = omega arith in
    mul-le-mul_left G.positions (pow-le-pow_right (legal_actions G legal) half)

pub ranks_fit : (G : Game) → Legal G → (m d : ℕ) → m ≤ d → length (rank_sheet_of G m) ≤ output_size G d
unfolding output_size
ranks_fit G legal m d h = rw (rank_sheet_length G m) (omega (arith, nodes_more G legal m d h))

pub table_fits : (G : Game) (d : ℕ) → length (table_sheet_of G d) ≤ output_size G d
unfolding output_size
table_fits G d = rw (table_sheet_length G d) (omega arith)
