-- Judging, as the code of src/judging.rt does it. Assumes nothing.
use Prim.Native.Nat.{ℕ, zero, suc, ◌≤◌, ◌<◌}
use mathlib.Core.Path.{◌≡◌, refl, sym, ◌∙◌, ap}
use mathlib.Core.Bool.{Bool, true, false}
use mathlib.Core.List.{List}
use native.Mathlib.Omega.{arith}
use lib.Dec.{eqb}
use lib.ListN.{length, get_or, replicate, length-replicate}
use Rattle.std.proofs.Common.{Option, Some, None, Result, Ok, Err, cond}
use borrow.Author.Rules.{rules}
use Rattle.theory.specs.Fold.{all_below, first_not}
use Rattle.theory.specs.Answer.{refused, accepted, on_accepted}
use Rattle.theory.specs.Game.{Game}
use Rattle.theory.specs.Delay.{initial_words, arena}
use Rattle.theory.specs.Table.{Table}
use Rattle.theory.specs.Rounds.{Arena}
use Rattle.theory.specs.Judging.{word_ok, node_ok, Ruling, bad_word, bad_node, sound, ruling}
use Rattle.theory.proofs.Answer.{check_failed}
use Rattle.theory.proofs.Fold.{all_none, first_same, all_same}
use Rattle.sheet.specs.Form.{part_at}
use Rattle.sheet.specs.Limits.{most_nodes}
use Rattle.sheet.specs.Bodies.{delay_of}
use Rattle.reader.specs.code.Laid.{grid_at}
use Rattle.reader.specs.Reading.{read_answer}
use Rattle.sheet.specs.Refusals.{number_of, answer_of, answer_by}
use Rattle.sheet.proofs.RefusalLaws.{by_accepted, by_refused}
use Rattle.sheet.specs.SheetGame.{game_of}
use Rattle.sheet.specs.code.Arrays.{firsts_of, view_of}
use Rattle.sheet.specs.declared.refusal.Refusal.{Refusal}
use Rattle.reader.specs.declared.reading.Layout.{Layout}
use Rattle.reader.proofs.Accepted.{carries, few_nodes, arena_nodes, read_accepted, read_refused}
use Rattle.reader.proofs.Legality.{legal_game}
use Rattle.walk.specs.declared.level.Level.{Level}
use Rattle.walk.specs.code.Levels.{arena_of, level_at, level_to}
use Rattle.walk.specs.code.Nodes.{Sized}
use Rattle.walk.proofs.LevelLaws.{arena_is}
use Rattle.walk.proofs.NodeLaws.{node_tested}
use Rattle.region.proofs.ReadLaws.{view_read, is_level, sized_read}
use Rattle.table.specs.TableSheet.{table_at, table_answer}
use Rattle.table.specs.declared.reading.TableLayout.{TableLayout}
use Rattle.table.proofs.Accepted.{table_accepted}
use Rattle.judge.specs.Judging.{sheets_agree, judge_answer}
use Rattle.rule.specs.code.Parts.{marks_after, Marked, part_in}
use Rattle.rule.proofs.PartCode.{after_marked}
use Rattle.judge.specs.code.Tests.{whole_at, flag_stands, good_flags, first_failing}
use Rattle.judge.specs.code.Judgeable.{table_with, layouts_agree, Judgeable}
use Rattle.judge.proofs.PartLaws.{node_is}
use Rattle.judge.proofs.WordLaws.{flag_is}
use Rattle.judge.proofs.Accepted.{agrees, agreed_fits, ruling_is}

-- what the searches say: the first index of which a test does not hold

found_at : (b : Bool) {i v : ℕ} → Some v ≡ cond b None (Some i) → (b ≡ false) × (v ≡ i)
found_at true e = cc
found_at false e = (refl, cc)

found_none : (b : Bool) (i : ℕ) → None ≡ cond b None (Some i) → b ≡ true
found_none true i e = refl
found_none false i e = cc

module _ (p : ℕ → Bool) (n : ℕ) where
  failing : {v : ℕ} → Some v ≡ first_failing p n → (all_below p n ≡ false) × (v ≡ first_not p n)
  unfolding first_failing
  failing e = found_at (all_below p n) e

  passing : None ≡ first_failing p n → all_below p n ≡ true
  unfolding first_failing
  passing e = found_none (all_below p n) (first_not p n) e

failing_same : (p q : ℕ → Bool) (n : ℕ) → ((i : ℕ) → i < n → p i ≡ q i) → first_failing p n ≡ first_failing q n
unfolding first_failing
failing_same p q zero f = rw (all_none p, all_none q)
failing_same p q (suc n) f = rw (all_same p q (suc n) f, first_same p q n (λ i h. f i (omega arith)))

-- a node that exists

pub whole_here : (p : List ℕ) (g : List (List ℕ)) (u f : List ℕ) (l : Level) (marks masks : List ℕ) (k : ℕ) {m r : ℕ} → Sized (length p) l → k < l.nodes
    → m ≡ get_or masks k 0 → r ≡ part_in p g u f l marks k m → eqb r m ≡ whole_at (arena_of p g u f l) marks masks k
unfolding whole_at part_in
whole_here p g u f l marks masks k z h e q = rw (q, node_tested (length p) l k z h, e)

-- the arrays of a sheet that was read; p and u are its P and U bodies

module _ (s : List ℕ) (l : Layout) (reads : read_answer s ≡ accepted l) (p : List ℕ) (ep : p ≡ part_at s l.positions) (v : Level)
    (made : v ≡ level_to (length p) l.start l.actions l.delay) where
  level_is : v ≡ level_at (length p) l.start l.actions l.delay
  level_is = is_level s (Ok l) (sym reads) l refl p ep v made

  pub sized_here : Sized (length p) v
  sized_here = sized_read s (Ok l) (sym reads) l refl p ep v made

  module _ (u : List ℕ) (g : List (List ℕ)) (f : List ℕ) (eg : g ≡ grid_at s l) (eu : u ≡ part_at s l.moves) (ef : f ≡ firsts_of u) where
    arena_here_lem : arena_of p g u f v ≡ arena (game_of s) (delay_of s)
    arena_here_lem =
        ap (arena_of p g u f) level_is
        ∙ arena_is p g u f l.start l.actions l.delay
        ∙ rw (view_read s (Ok l) (sym reads) l refl p ep g u f eg eu ef, (carries s l reads).delay)

    nodes_here : v.nodes ≡ (arena (game_of s) (delay_of s)).nodes
    unfolding arena_of view_of
    nodes_here = sized_here.all_nodes ∙ ap (λ (E : Arena). E.nodes) arena_here_lem

    pub node_search : (marks masks : List ℕ) {r : Option ℕ} → r ≡ first_failing (whole_at (arena_of p g u f v) marks masks) v.nodes
        → r ≡ first_failing (whole_at (arena (game_of s) (delay_of s)) marks masks) (arena (game_of s) (delay_of s)).nodes
    node_search marks masks e =
        e
        ∙ ap (first_failing (whole_at (arena_of p g u f v) marks masks)) nodes_here
        ∙ ap (λ E. first_failing (whole_at E marks masks) (arena (game_of s) (delay_of s)).nodes) arena_here_lem

-- the ruling, by the results of both searches

module _ (s : List ℕ) (l : Layout) (flags masks : List ℕ) (j : Judgeable s l flags masks) where
  abbrev G : Game
  G = game_of s

  abbrev d : ℕ
  d = delay_of s

  abbrev T : Table
  T = table_with flags masks

  marks_room : length masks ≤ most_nodes
  marks_room = let f = few_nodes s l j.reads in omega (arith, j.fits.masks_length, arena_nodes s d)

  pub marks_made : {marks : List ℕ} → marks ≡ marks_after masks (replicate most_nodes 0) → Marked masks marks
  marks_made e =
      rw e (after_marked masks (replicate most_nodes 0) (rw (length-replicate {A = ℕ} most_nodes 0) marks_room))

  module _ (marks : List ℕ) (marked : Marked masks marks) {w : Option ℕ}
      (ew : w ≡ first_failing (flag_stands flags (good_flags s marks)) (length flags)) where
    word_found : w ≡ first_failing (word_ok G d T) (initial_words G d)
    word_found = (rw j.fits.flags_length at ew) ∙ failing_same _ _ (initial_words G d) (flag_is s l flags masks j marks marked)

    pub judged_word : (v : ℕ) → w ≡ Some v → bad_word v ≡ ruling G d T
    unfolding ruling
    judged_word v e =
        let x = failing (word_ok G d T) (initial_words G d) (sym e ∙ word_found) in
        ap bad_word x.1 ∙ rw x.0

    module _ (h : w ≡ None) {n : Option ℕ} (en : n ≡ first_failing (whole_at (arena G d) marks masks) (arena G d).nodes) where
      words_pass : all_below (word_ok G d T) (initial_words G d) ≡ true
      words_pass = passing (word_ok G d T) (initial_words G d) (sym h ∙ word_found)

      node_found : n ≡ first_failing (node_ok (arena G d) T) (arena G d).nodes
      node_found = en ∙ failing_same _ _ (arena G d).nodes (node_is G (legal_game s l j.reads) d T j.fits marks marked)

      pub judged_node : (k : ℕ) → n ≡ Some k → bad_node k ≡ ruling G d T
      unfolding ruling
      judged_node k e =
          let x = failing (node_ok (arena G d) T) (arena G d).nodes (sym e ∙ node_found) in
          ap bad_node x.1 ∙ rw (words_pass, x.0)

      pub judged_sound : n ≡ None → sound ≡ ruling G d T
      unfolding ruling
      judged_sound e =
          let x = passing (node_ok (arena G d) T) (arena G d).nodes (sym e ∙ node_found) in
          rw (words_pass, x)

pub ruleset rulings = (rules, marks_made, judged_word, judged_node, judged_sound)

-- check 21 over the layouts is the one over the bytes
pub agree_layouts : (s t : List ℕ) (l : Layout) (x : TableLayout) → read_answer s ≡ accepted l
    → layouts_agree l x ≡ sheets_agree s (table_at t x)
unfolding layouts_agree sheets_agree
agree_layouts s t l x reads = let c = carries s l reads in rw (c.start, c.actions, c.delay, c.positions_size)

-- the checks; rd and y are the two readings

module _ (s t : List ℕ) (rd : Result Layout Refusal) (e : answer_of rd ≡ read_answer s) where
  pub game_refused : (x : Refusal) → rd ≡ Err x → refused (number_of x) ≡ judge_answer s t
  unfolding judge_answer on_accepted
  game_refused x f = rw (read_refused s rd e x f)

  module _ (l : Layout) (a : rd ≡ Ok l) (y : Result TableLayout Refusal) (ey : answer_by (table_at t) y ≡ table_answer t) where
    reads : read_answer s ≡ accepted l
    reads = read_accepted s rd e l a

    pub table_refused : (x : Refusal) → y ≡ Err x → refused (number_of x) ≡ judge_answer s t
    unfolding judge_answer on_accepted
    table_refused x f =
        rw (reads, by_refused (table_at t) y _ ey x f)

    module _ (x : TableLayout) (b : y ≡ Ok x) {r : Bool} (er : r ≡ layouts_agree l x) where
      readable : table_answer t ≡ accepted (table_at t x)
      readable = by_accepted (table_at t) y _ ey x b

      agree_is : layouts_agree l x ≡ sheets_agree s (table_at t x)
      agree_is = agree_layouts s t l x reads

      pub mismatch : r ≡ false → refused 21 ≡ judge_answer s t
      unfolding judge_answer on_accepted
      mismatch f = rw (reads, readable) (sym (check_failed _ 21 _ (sym agree_is ∙ sym er ∙ f)))

      module _ (f : r ≡ true) (flags masks : List ℕ) (ef : flags ≡ part_at t x.flags) (em : masks ≡ part_at t x.masks) where
        agreed : sheets_agree s (table_at t x) ≡ true
        agreed = sym agree_is ∙ sym er ∙ f

        pub judgeable : Judgeable s l flags masks
        judgeable =
            record {
              reads = reads;
              fits =
                  rw (ef, em)
                  (agreed_fits s (table_at t x) (agrees s (table_at t x) agreed) (table_accepted t (table_at t x) readable).1);
            }

        pub judged : (z : Ruling) → z ≡ ruling (game_of s) (delay_of s) (table_with flags masks) → accepted z ≡ judge_answer s t
        judged z q = ap accepted (q ∙ rw (ef, em) refl) ∙ sym (ruling_is s t l (table_at t x) reads readable agreed)

pub ruleset judgings = (rules, game_refused, mismatch, judgeable, judged)
