-- The table sheet of any table that fits its game reads back: the game's start, actions, delay and highest position, and that table.
-- Assumes nothing.
use Prim.Native.Nat.{ℕ, ◌+◌, ◌-◌, ◌*◌, ◌/◌, ◌^◌, ◌≤◌, ◌<◌}
use mathlib.Core.Path.{◌≡◌, refl, sym, ap, ◌∙◌}
use mathlib.Core.Bool.{true}
use mathlib.Core.List.{List, [], ◌∷◌}
use native.Mathlib.Omega.{arith}
use lib.ListN.{length, get_or}
use borrow.Author.Tests.{eq-eqb, le-leb, lt-ltb}
use Rattle.theory.specs.Answer.{accepted, check, on_accepted}
use Rattle.theory.specs.Game.{Game, Legal}
use Rattle.theory.specs.Delay.{initial_words, words, arena}
use Rattle.theory.specs.Table.{Table, TableFits}
use Rattle.theory.proofs.Fold.{both_true, all_below_lem}
use Rattle.theory.proofs.Answer.{check_passed}
use Rattle.theory.proofs.Tables.{legal_actions}
use Rattle.sheet.specs.Limits.{width, most_positions, most_actions, most_delay, most_nodes, most_words}
use Rattle.sheet.specs.Form.{entry_size, contents_ok, body_of, Part, part}
use Rattle.sheet.specs.Size.{nodes_of}
use Rattle.sheet.specs.Bodies.{delay_of}
use Rattle.sheet.specs.SheetGame.{game_of}
use Rattle.sheet.proofs.SizeLaws.{few_first_words}
use Rattle.reader.specs.Reading.{read_answer}
use Rattle.reader.specs.declared.reading.Layout.{Layout}
use Rattle.reader.proofs.Accepted.{read_is, ranges, few_nodes, arena_nodes}
use Rattle.reader.proofs.Legality.{legal_game}
use Rattle.table.specs.TableSheet.{table_letters, table_layout, decode, table_nodes, numbers_ok, below_at, bytes_below, bodies_ok, shape_answer, some_flagged, table_answer}
use Rattle.writer.specs.SheetBytes.{header_of, table_bytes, table_sheet, table_said}
use Rattle.writer.proofs.Sheets.{before, length_sheet, body_is, contents_ok_lem}

-- what checks 2, 3 and 7 leave of a game's numbers and its delay
pub record Ranged (G : Game) (d : ℕ) : Type 0 where
  pub legal : Legal G
  pub few_positions : G.positions ≤ most_positions
  pub few_actions : G.actions ≤ most_actions
  pub short_delay : d ≤ most_delay
  pub few_nodes : (arena G d).nodes ≤ most_nodes

-- an accepted game sheet's numbers
pub sheet_ranged : (s : List ℕ) (l : Layout) → read_answer s ≡ accepted l → Ranged (game_of s) (delay_of s)
unfolding game_of
sheet_ranged s l e =
    let r = ranges s (read_is s l e).0 in
    record {
      legal = legal_game s l e;
      few_positions = r.few_positions;
      few_actions = r.few_actions;
      short_delay = r.short_delay;
      few_nodes = rw (arena_nodes s (delay_of s)) (few_nodes s l e);
    }

pub few_words : (G : Game) (d : ℕ) → Ranged G d → initial_words G d ≤ most_words
unfolding initial_words
few_words G d ranged = few_first_words G.actions d ranged.few_actions ranged.short_delay

module _ (G : Game) (d : ℕ) (T : Table) (fits : TableFits G d T) where
  abbrev parts : List Part
  parts = part 83 (header_of G d) ∷ part 87 T.flags ∷ part 84 T.masks ∷ []

  -- 15 bytes of contents and 4 of S
  parts_size : entry_size width * 3 + before parts 3 ≡ 19 + initial_words G d + (arena G d).nodes
  unfolding entry_size before header_of
  parts_size = rw (fits.flags_length, fits.masks_length) (omega arith)

  pub table_length : length (table_sheet G d T) ≡ 19 + initial_words G d + (arena G d).nodes
  unfolding table_sheet table_bytes
  table_length = length_sheet width parts ∙ parts_size

  module _ (ranged : Ranged G d) where
    pub table_short : length (table_sheet G d T) < 256 ^ width
    table_short = rw table_length (omega (arith, few_words G d ranged, ranged.few_nodes))

    parts_fit : entry_size width * 3 + before parts 3 < 256 ^ width
    parts_fit = rw parts_size (omega (arith, few_words G d ranged, ranged.few_nodes))

    contents : contents_ok width table_letters (table_sheet G d T) ≡ true
    unfolding table_sheet table_bytes
    contents = contents_ok_lem width parts parts_fit

    header_body_lem : body_of width (table_sheet G d T) 0 ≡ header_of G d
    unfolding table_sheet table_bytes
    header_body_lem = body_is width parts parts_fit 0 (omega arith)

    flags_body : body_of width (table_sheet G d T) 1 ≡ T.flags
    unfolding table_sheet table_bytes
    flags_body = body_is width parts parts_fit 1 (omega arith)

    masks_body : body_of width (table_sheet G d T) 2 ≡ T.masks
    unfolding table_sheet table_bytes
    masks_body = body_is width parts parts_fit 2 (omega arith)

    pub table_says : decode (table_sheet G d T) ≡ table_said G d T
    unfolding decode table_layout header_of body_of
    table_says = rw (header_body_lem, flags_body, masks_body)

    nodes_are : table_nodes (table_said G d T) ≡ (arena G d).nodes
    unfolding table_nodes nodes_of arena words
    nodes_are =
        let e : G.positions - 1 + 1 ≡ G.positions = omega (arith, ranged.legal.start_position) in
        ap (λ n. n * G.actions ^ (d / 2)) e

    numbers : numbers_ok 4 (table_said G d T) ≡ true
    unfolding numbers_ok
    numbers =
        both_true _ _ refl
        (both_true _ _ (le-leb 1 G.actions (legal_actions G ranged.legal))
        (both_true _ _ (le-leb G.actions most_actions ranged.few_actions)
        (both_true _ _ (le-leb d most_delay ranged.short_delay)
        (both_true _ _ (le-leb G.start (G.positions - 1) (omega (arith, ranged.legal.start_position)))
        (le-leb (table_nodes (table_said G d T)) most_nodes (rw nodes_are ranged.few_nodes))))))

    flags_below : bytes_below 2 T.flags ≡ true
    unfolding bytes_below below_at
    flags_below = all_below_lem _ _ (λ v h. lt-ltb (get_or T.flags v 0) 2 (omega (arith, fits.flags_small v)))

    masks_below : bytes_below (2 ^ G.actions) T.masks ≡ true
    unfolding bytes_below below_at
    masks_below = all_below_lem _ _ (λ k h. lt-ltb (get_or T.masks k 0) (2 ^ G.actions) (fits.masks_small k))

    bodies_ok_lem : bodies_ok (table_said G d T) ≡ true
    unfolding bodies_ok initial_words
    bodies_ok_lem =
        both_true _ _ (eq-eqb _ _ fits.flags_length)
        (both_true _ _ (eq-eqb _ _ (fits.masks_length ∙ sym nodes_are)) (both_true _ _ flags_below masks_below))

    header_size : length (body_of width (table_sheet G d T) 0) ≡ 4
    unfolding header_of
    header_size = ap length header_body_lem

    -- checks 10 and 11 accept it
    pub table_shape : shape_answer (table_sheet G d T) ≡ accepted (table_said G d T)
    unfolding shape_answer
    table_shape =
        rw (header_size, table_says)
        (check_passed _ _ _ contents ∙ check_passed _ _ _ numbers ∙ check_passed _ _ _ bodies_ok_lem)

    -- and check 12, where some first word is flagged
    pub table_reads : some_flagged T ≡ true → table_answer (table_sheet G d T) ≡ accepted (table_said G d T)
    unfolding table_answer on_accepted check
    table_reads e = simp (table_shape, e)
