-- Solving and then writing, once every check has passed: the buffers hold what is written, and the sheet is making's answer. Assumes
-- nothing.
use Prim.Native.Nat.{ℕ, ◌≤◌}
use mathlib.Core.Path.{◌≡◌, refl, sym, ◌∙◌, ap}
use mathlib.Core.List.{List}
use native.Mathlib.Omega.{arith}
use lib.ListN.{length, take}
use borrow.Author.Tests.{le-leb}
use Rattle.theory.specs.Answer.{accepted, on_accepted}
use Rattle.theory.specs.Buffer.{over}
use Rattle.theory.specs.Game.{Game}
use Rattle.theory.specs.Rounds.{masks, final_ranks}
use Rattle.theory.specs.Delay.{Verdict, wins, losing, arena, answer}
use Rattle.theory.specs.Reach.{reached}
use Rattle.theory.proofs.Answer.{refused_not_accepted, check_passed, accepted_same}
use Rattle.theory.proofs.Buffer.{over_first, over_room}
use Rattle.theory.proofs.Fold.{both_true}
use Rattle.theory.proofs.Monotone.{answer_least}
use Rattle.theory.proofs.Region.{length_masks}
use Rattle.theory.proofs.Rounds.{final_length}
use Rattle.sheet.specs.Limits.{most_delay, most_nodes}
use Rattle.sheet.specs.Bodies.{delay_of}
use Rattle.sheet.specs.SheetGame.{game_of}
use Rattle.reader.specs.declared.reading.Layout.{Layout}
use Rattle.reader.proofs.Accepted.{carries}
use Rattle.text.specs.Page.{page, puts}
use Rattle.text.proofs.Page.{written}
use Rattle.solver.specs.Solving.{solve_answer, solved_delay, masks_left, ranks_left, solved_by}
use Rattle.std.specs.Prelude.{Result, Ok, Err}
use Rattle.sheet.specs.Refusals.{answer_by}
use Rattle.sheet.specs.declared.refusal.Refusal.{Refusal}
use Rattle.sheet.proofs.RefusalLaws.{by_accepted, by_refused}
use Rattle.solver.specs.declared.solve.Solution.{Solution}
use Rattle.solver.specs.declared.solve.Solution.TheVariants as solution
use Rattle.writer.specs.SheetBytes.{rank_bytes, rank_sheet}
use Rattle.writer.proofs.Readable.{Ranged, sheet_ranged}
use Rattle.maker.specs.Making.{table_sheet_of, rank_sheet_of, Made, won, lost, made_of, make_answer, output_after, measure_of, measured}
use Rattle.maker.specs.code.Checked.{nodes_at, header_bytes, Ready, HasTable}
use Rattle.maker.proofs.Made.{nodes_more, table_fits, ranks_fit}
use Rattle.maker.proofs.LayoutLaws.{nodes_are, header_is}

-- a made sheet is its verdict and its bytes

abbrev verdict_in : Made → Verdict
verdict_in (won t) = wins
verdict_in (lost m t) = losing m

abbrev bytes_in : Made → List ℕ
bytes_in (won t) = t
bytes_in (lost m t) = t

pub measure_is : (k : ℕ) (x : Made) → measure_of k x ≡ record { verdict = verdict_in x; size = length (bytes_in x); reached = k }
unfolding measure_of
measure_is k (won t) = refl
measure_is k (lost m t) = refl

output_is : (x : Made) (buffer : List ℕ) → output_after (accepted x) buffer ≡ over (bytes_in x) buffer
unfolding output_after
output_is (won t) buffer = refl
output_is (lost m t) buffer = refl

module _ (s : List ℕ) (l : Layout) (M R O : List ℕ) (ready : Ready s l (length M) (length R) (length O)) where
  abbrev G : Game
  G = game_of s

  abbrev d : ℕ
  d = delay_of s

  ranged : Ranged G d
  ranged = sheet_ranged s l ready.reads

  solve_is : solve_answer s (length M) (length R) ≡ accepted (record { verdict = answer G d; layout = l })
  unfolding solve_answer on_accepted
  solve_is =
      rw ready.reads
      (check_passed _ _ _ (both_true _ _ (le-leb _ _ ready.masks_room) (le-leb _ _ ready.ranks_room)))

  pub make_is : make_answer s (length M) (length R) (length O) ≡ accepted (made_of G d (answer G d))
  unfolding make_answer on_accepted
  make_is = rw solve_is (check_passed _ _ _ (le-leb _ _ ready.output_room))

  early : (m : ℕ) → answer G d ≡ losing m → m ≤ d
  early m e = (answer_least G ranged.legal d m e).asked

  made_fits : (v : Verdict) → answer G d ≡ v → length (bytes_in (made_of G d v)) ≤ length O
  unfolding made_of
  made_fits wins e = omega (arith, table_fits G d, ready.output_room)
  made_fits (losing m) e = omega (arith, ranks_fit G ranged.legal m d (early m e), ready.output_room)

  -- the solver's contract: y is its answer, M' and R' what it left in the buffers
  abbrev pub Solves : Result Solution Refusal → List ℕ → List ℕ → Type 0
  Solves y M' R' =
      record {
        answer : answer_by solved_by y ≡ solve_answer s (length M) (length R);
        masks : M' ≡ masks_left s (solve_answer s (length M) (length R)) M;
        ranks : R' ≡ ranks_left s (solve_answer s (length M) (length R)) R;
      }

  module _ (y : Result Solution Refusal) (M' R' : List ℕ) (solves : Solves y M' R') where
    masks_over : M' ≡ over (masks (arena G (solved_delay d (answer G d)))) M
    unfolding masks_left
    masks_over = rw solve_is at solves.masks

    ranks_over : R' ≡ over (final_ranks (arena G (solved_delay d (answer G d)))) R
    unfolding ranks_left
    ranks_over = rw solve_is at solves.ranks

    -- the contract, for what the code answers
    abbrev pub Promised : Verdict → List ℕ → ℕ → Type 0
    Promised v O' n =
        record {
          answer : accepted (record { verdict = v; size = n; reached = l.reached }) ≡ measured (reached G) (make_answer s (length M) (length R) (length O));
          masks : M' ≡ masks_left s (solve_answer s (length M) (length R)) M;
          ranks : R' ≡ ranks_left s (solve_answer s (length M) (length R)) R;
          output : O' ≡ output_after (make_answer s (length M) (length R) (length O)) O;
        }

    -- the sheet is written, n bytes of it, and the output is then O'
    makes : (v : Verdict) → answer G d ≡ v → (O' : List ℕ) (n : ℕ) → page O' n ≡ puts (page O 0) (bytes_in (made_of G d v))
        → Promised (verdict_in (made_of G d v)) O' n
    unfolding measured on_accepted over
    makes v e O' n eo =
        let x = made_of G d v in
        let is : make_answer s (length M) (length R) (length O) ≡ accepted x = make_is ∙ ap (λ u. accepted (made_of G d u)) e in
        let whole = eo ∙ written (bytes_in x) O (made_fits v e) in
        record {
          answer =
              rw (is, (carries s l ready.reads).reached)
              (ap (λ p. accepted (record { verdict = verdict_in x; size = p.at; reached = reached G })) whole ∙ ap accepted (sym (measure_is _ x)));
          masks = solves.masks;
          ranks = solves.ranks;
          output = rw is (ap (λ p. p.bytes) whole ∙ sym (output_is x O));
        }

    -- winning
    module _ (v : Solution) (o : y ≡ Ok v) (x : Layout) (ex : v ≡ solution.Winning x) where
      verdict_wins : answer G d ≡ wins
      verdict_wins = ap (λ a. a.verdict) (accepted_same (sym solve_is ∙ by_accepted solved_by y _ solves.answer v o ∙ ap (λ u. accepted (solved_by u)) ex))

      pub has_table : HasTable s l M' R'
      unfolding solved_delay
      has_table =
          record {
            reads = ready.reads;
            masks = rw (masks_over, verdict_wins) (over_first _ M _ (sym (length_masks (arena G d))));
            ranks = rw (ranks_over, verdict_wins) (over_first _ R _ (sym (final_length (arena G d))));
          }

      pub makes_won : (O' : List ℕ) (n : ℕ) → page O' n ≡ puts (page O 0) (table_sheet_of G d) → Promised wins O' n
      unfolding made_of
      makes_won = makes wins verdict_wins

    -- losing m
    module _ (v : Solution) (o : y ≡ Ok v) (m : ℕ) (x : Layout) (ex : v ≡ solution.Losing m x) where
      verdict_loses : answer G d ≡ losing m
      verdict_loses = ap (λ a. a.verdict) (accepted_same (sym solve_is ∙ by_accepted solved_by y _ solves.answer v o ∙ ap (λ u. accepted (solved_by u)) ex))

      nodes : nodes_at l m ≡ (arena G m).nodes
      nodes = nodes_are s l ready.reads m

      pub losing_short : m ≤ most_delay
      losing_short = omega (arith, early m verdict_loses, ranged.short_delay)

      pub losing_few : nodes_at l m ≤ most_nodes
      losing_few = rw nodes (omega (arith, nodes_more G ranged.legal m d (early m verdict_loses), ranged.few_nodes))

      ranks_are : R' ≡ over (final_ranks (arena G m)) R
      unfolding solved_delay
      ranks_are = ranks_over ∙ rw verdict_loses

      pub losing_inside : nodes_at l m ≤ length R'
      losing_inside = rw (ranks_are, nodes) (omega (arith, final_length (arena G m), over_room (final_ranks (arena G m)) R))

      -- so the rank sheet can be written
      pub loses : (m ≤ most_delay) × (nodes_at l m ≤ most_nodes) × (nodes_at l m ≤ length R')
      loses = (losing_short, losing_few, losing_inside)

      losing_bytes : rank_bytes (header_bytes l m) (take (nodes_at l m) R') ≡ rank_sheet_of G m
      unfolding rank_sheet_of rank_sheet
      losing_bytes =
          let front : take (nodes_at l m) R' ≡ final_ranks (arena G m) = rw ranks_are (over_first _ R _ (nodes ∙ sym (final_length (arena G m)))) in
          rw (header_is s l ready.reads m, front)

      pub makes_lost : (O' : List ℕ) (n : ℕ) → page O' n ≡ puts (page O 0) (rank_bytes (header_bytes l m) (take (nodes_at l m) R'))
          → Promised (losing m) O' n
      unfolding made_of
      makes_lost O' n eo = makes (losing m) verdict_loses O' n (eo ∙ ap (puts (page O 0)) losing_bytes)

    -- solving does not refuse what was read and has room
    pub no_refusal : {A : Type 0} (x : Refusal) → y ≡ Err x → A
    no_refusal x ex = absurd (refused_not_accepted (sym (by_refused solved_by y _ solves.answer x ex) ∙ solve_is))
