-- The search of src/reach.rt: what joins the queue, and that in the end it has the positions on plays. Assumes nothing.
use Prim.Native.Nat.{ℕ, suc, ◌+◌, ◌-◌, ◌*◌, ◌≤◌, ◌<◌}
use mathlib.Core.Path.{◌≡◌, refl, sym, ◌∙◌, ap, subst, fun_ext}
use mathlib.Core.Bool.{Bool, true, false}
use mathlib.Core.Logic.{◌⊎◌, ⊎_elim}
use mathlib.Core.List.{List, [], ◌∷◌, ◌++◌}
use native.Mathlib.Omega.{arith}
use native.Mathlib.Numerals.{add-one}
use lib.Dec.{eqb}
use lib.ListN.{length, length-append, get_or-append, get_or, set, replicate, length-set, length-replicate, get_or-replicate, get_or-eq_default}
use lib.Seq.{get_or-append-add, get_or-set_same, get_or-set_other, ext_get_or}
use borrow.Author.Rules.{rules}
use borrow.Author.Tests.{eqb-true, eq-eqb, ne_eqb}
use Rattle.theory.specs.Fold.{either, any_below, any_of, tabulate, count}
use Rattle.theory.specs.Game.{absent, to, Game, Legal}
use Rattle.theory.specs.Play.{origin, last_from, begun}
use Rattle.theory.specs.Reach.{OnPlay, is_target, leads, reached}
use Rattle.theory.proofs.Fold.{bool, not_both, same_test, same?, below?, either_left, either_right, either_cases, either_first, either_assoc, any_none, any_suc}
use Rattle.theory.proofs.Fold.{length_tabulate, get_d_tabulate, get_d_tabulate_out, any_tabulate, any_of_nil, tabulate_none, count_le, count_more, count_short}
use Rattle.theory.proofs.Reach.{leads_on, leads_inside, closed_count, on_inside}
use Rattle.sheet.specs.Limits.{most_positions}
use Rattle.sheet.specs.Form.{body_of}
use Rattle.sheet.specs.Bodies.{header_body, targets_body, moves_body, is_holding, start_of, action_count}
use Rattle.gates.specs.code.Held.{held_grid}
use Rattle.sheet.specs.SheetGame.{game_of}
use Rattle.reader.specs.code.Steps.{Checked}
use Rattle.sheet.specs.code.Arrays.{target_at, firsts_of, to_at, tos_between, view_of, bodies_game}
use Rattle.reader.specs.code.Reaching.{queue_of, marked, Queued, marks_with, Grown, is_position, by_action_in, by_line, by_move_in}
use Rattle.reader.specs.declared.reach.Queue.{Queue}
use Rattle.arrayvec.specs.ArrayVec.{ArrayVec}
use Rattle.reader.proofs.Accepted.{ranges}
use Rattle.reader.proofs.Legality.{legal}
use Rattle.reader.proofs.Bodies.{bodies_game_lem}

-- marks

module _ (f : ℕ → Bool) (m : List Bool) where
  length_marks : length (marks_with f m) ≡ most_positions
  unfolding marks_with
  length_marks = length_tabulate _ 0 most_positions

  mark_with : (r : ℕ) → r < most_positions → marked (marks_with f m) r ≡ either (marked m r) (f r)
  unfolding marks_with marked
  mark_with r h = get_d_tabulate (λ r. either (marked m r) (f r)) most_positions r false h

  -- what has a mark then had one or passes the test
  mark_cases : (r : ℕ) → marked (marks_with f m) r ≡ true → either (marked m r) (f r) ≡ true
  unfolding marks_with marked
  mark_cases r e =
      ⊎_elim
      (λ (h : r < most_positions). sym (mark_with r h) ∙ e)
      (λ (h : most_positions ≤ r). absurd (not_both e (get_d_tabulate_out _ most_positions r false h)))
      (below? r most_positions)

  -- the marks of a list that has as many are those that its entries say
  marks_are : (n : List Bool) → length n ≡ most_positions → ((r : ℕ) → r < most_positions → marked n r ≡ either (marked m r) (f r))
      → n ≡ marks_with f m
  unfolding marked
  marks_are n l e =
      ext_get_or false _ _ (l ∙ sym length_marks)
      (λ r h. let k : r < most_positions = rw l at h in e r k ∙ sym (mark_with r k))

-- joining

-- nothing joins where all that pass have a mark
grown_same : (f : ℕ → Bool) (w : Queue) → Queued w → ((r : ℕ) → r < most_positions → f r ≡ true → marked w.marks r ≡ true) → Grown f w w
grown_same f w q h =
    record {
      queued = q;
      marks =
          marks_are f w.marks w.marks q.marks_length
          (λ r l. same_test _ _ (λ e. either_left _ _ e) (λ e. ⊎_elim (λ (a : marked w.marks r ≡ true). a) (λ b. h r l b) (either_cases _ _ e)));
      no_fewer = omega arith;
      kept = λ i l. refl;
    }

grown_join : (f g h : ℕ → Bool) (u v w : Queue) → Grown f u v → Grown g v w → ((r : ℕ) → r < most_positions → h r ≡ either (f r) (g r)) → Grown h u w
grown_join f g h u v w a b e =
    record {
      queued = b.queued;
      marks =
          marks_are h u.marks w.marks b.queued.marks_length
          (λ r l.
          ap (λ (m : List Bool). marked m r) b.marks
          ∙ mark_with g v.marks r l
          ∙ ap (λ (m : List Bool). either (marked m r) (g r)) a.marks
          ∙ ap (λ x. either x (g r)) (mark_with f u.marks r l)
          ∙ either_assoc _ _ _
          ∙ ap (either (marked u.marks r)) (sym (e r l)));
      no_fewer = omega (arith, a.no_fewer, b.no_fewer);
      kept = λ i l. b.kept i (omega (arith, a.no_fewer)) ∙ a.kept i l;
    }

-- a position without a mark joins at the end

module _ (m : List Bool) (old : ArrayVec ℕ) (t : ℕ) (w : Queued (queue_of m old)) (h : t < most_positions) (f : get_or m t false ≡ false) where
  mark_here : marked (set m t true) t ≡ true
  unfolding marked
  mark_here = get_or-set_same m t true false (rw w.marks_length h)

  mark_there : (r : ℕ) → (r ≡ t → ⊥) → marked (set m t true) r ≡ marked m r
  unfolding marked
  mark_there r d = get_or-set_other m t r true false d

  one_more : count (marked (set m t true)) most_positions ≡ length old.items + 1
  unfolding marked
  one_more =
      count_more (marked m) (marked (set m t true)) t most_positions h f mark_here mark_there ∙ ap (λ k. k + 1) (sym w.number)

  pub join_room : length old.items < most_positions
  join_room = omega (arith, one_more, count_le (marked (set m t true)) most_positions)

  mark_stays : (r : ℕ) → marked m r ≡ true → marked (set m t true) r ≡ true
  mark_stays r e =
      ⊎_elim (λ (s : r ≡ t). ap (marked (set m t true)) s ∙ mark_here) (λ (d : r ≡ t → ⊥). mark_there r d ∙ e) (same? r t)

  module _ (new : ArrayVec ℕ) (e : new.items ≡ old.items ++ t ∷ []) where
    longer : length new.items ≡ length old.items + 1
    longer = ap length e ∙ length-append old.items (t ∷ [])

    entry_here : get_or new.items (length old.items) 0 ≡ t
    entry_here = let z : length old.items + 0 ≡ length old.items = omega arith in rw e (rw z at (get_or-append-add old.items (t ∷ []) 0 0))

    entry_there : (i : ℕ) → i < length old.items → get_or new.items i 0 ≡ get_or old.items i 0
    entry_there i l = rw e (get_or-append old.items (t ∷ []) 0 i l)

    joined : Queued (queue_of (set m t true) new)
    joined =
        record {
          marks_length = length-set m t true ∙ w.marks_length;
          number = longer ∙ sym one_more;
          holds = holds;
          has = has;
        }
      where
        holds : (i : ℕ) → i < length new.items → marked (set m t true) (get_or new.items i 0) ≡ true
        holds i l =
            ⊎_elim
            (λ (b : i < length old.items). ap (marked (set m t true)) (entry_there i b) ∙ mark_stays _ (w.holds i b))
            (λ (b : length old.items ≤ i).
            let e : i ≡ length old.items = omega (arith, longer) in
            ap (λ k. marked (set m t true) (get_or new.items k 0)) e ∙ ap (marked (set m t true)) entry_here ∙ mark_here)
            (below? i (length old.items))

        has : (r : ℕ) → marked (set m t true) r ≡ true → (i : ℕ) × (i < length new.items) × (get_or new.items i 0 ≡ r)
        has r e =
            ⊎_elim
            (λ (s : r ≡ t). (length old.items, omega (arith, longer), entry_here ∙ sym s))
            (λ (d : r ≡ t → ⊥).
            let i = w.has r (sym (mark_there r d) ∙ e) in
            (i.0, omega (arith, longer, i.1), entry_there i.0 i.1 ∙ i.2))
            (same? r t)

    pub join_new : Grown (is_position t) (queue_of m old) (queue_of (set m t true) new)
    unfolding is_position
    join_new =
        record {
          queued = joined;
          marks =
              marks_are (is_position t) m (set m t true) (length-set m t true ∙ w.marks_length)
              (λ r l.
              ⊎_elim
              (λ (s : r ≡ t). ap (marked (set m t true)) s ∙ mark_here ∙ sym (either_right _ _ (eq-eqb r t s)))
              (λ (d : r ≡ t → ⊥). mark_there r d ∙ sym (either_first _ _ (ne_eqb r t d)))
              (same? r t));
          no_fewer = omega (arith, longer);
          kept = entry_there;
        }

pub room : (w : Queue) (t : ℕ) → Queued w → t < most_positions → get_or w.marks t false ≡ false → length w.entries.items < most_positions
room w t q h f = join_room w.marks w.entries t q h f

-- nothing joins where there is no such position, or it has a mark

pub join_none : (w : Queue) (t : ℕ) → Queued w → most_positions ≤ t → Grown (is_position t) w w
unfolding is_position
join_none w t q h = grown_same (is_position t) w q (λ r l e. absurd (omega (arith, eqb-true r t e)))

pub join_marked : (w : Queue) (t : ℕ) → Queued w → get_or w.marks t false ≡ true → Grown (is_position t) w w
unfolding is_position marked
join_marked w t q h =
    grown_same (is_position t) w q (λ r l e. ap (λ k. get_or w.marks k false) (eqb-true r t e) ∙ h)

pub ruleset joining = (rules, room, join_new, join_none, join_marked)

-- the targets of a position, action by action

module _ (g : List (List ℕ)) (q : ℕ) where
  pub targets_start : (w : Queue) → Queued w → Grown (by_action_in g q 0) w w
  unfolding by_action_in
  targets_start w h = grown_same (by_action_in g q 0) w h (λ r l e. absurd (not_both e (any_none _)))

  pub targets_more : (x : ℕ) {k t : ℕ} {u v w : Queue} → to k ≡ target_at g q x → t ≡ k → Grown (by_action_in g q x) u v → Grown (is_position t) v w
      → Grown (by_action_in g q (x + 1)) u w
  unfolding by_action_in is_position is_target
  targets_more x {k} e f a b =
      grown_join _ _ _ _ _ _ a b
      (λ r l.
      let z : is_target r (to k) ≡ is_target r (target_at g q x) = ap (is_target r) e in
      rw (add-one x, f) (any_suc (λ c. is_target r (target_at g q c)) x ∙ ap (either (any_below (λ c. is_target r (target_at g q c)) x)) (sym z)))

  pub targets_none : (x : ℕ) {u v : Queue} → absent ≡ target_at g q x → Grown (by_action_in g q x) u v → Grown (by_action_in g q (x + 1)) u v
  unfolding by_action_in is_target
  targets_none x {u} {v} e a = subst (λ f. Grown f u v) (fun_ext (λ r. rw (add-one x) (tests r))) a
    where
      tests : (r : ℕ) → any_below (λ c. is_target r (target_at g q c)) x ≡ any_below (λ c. is_target r (target_at g q c)) (suc x)
      tests r =
          sym
          (any_suc (λ c. is_target r (target_at g q c)) x
          ∙ ap (either (any_below (λ c. is_target r (target_at g q c)) x)) (ap (is_target r) (sym e))
          ∙ either_first _ _ refl)

  pub targets_done : {x a : ℕ} {u v : Queue} → x ≤ a → a ≤ x → Grown (by_action_in g q x) u v → Grown (by_action_in g q a) u v
  targets_done {x} {a} h k b = let e : x ≡ a = omega arith in rw e at b

pub ruleset targeting = (rules, targets_start, targets_more, targets_none, targets_done)

-- the moves on some lines, line by line

line_next : (u : List ℕ) (i line r : ℕ) → i ≤ line → by_line u i (line + 1) r ≡ either (by_line u i line r) (eqb r (to_at u line))
unfolding by_line tos_between
line_next u i line r h =
    let e : line + 1 - i ≡ suc (line - i) = omega arith in
    let k : i + (line - i) ≡ line = omega arith in
    rw (e, any_tabulate (eqb r) (to_at u) i (suc (line - i)), any_tabulate (eqb r) (to_at u) i (line - i))
    (any_suc (λ k. eqb r (to_at u (i + k))) (line - i) ∙ ap (λ k. either (any_below (λ k. eqb r (to_at u (i + k))) (line - i)) (eqb r (to_at u k))) k)

module _ (u : List ℕ) (i : ℕ) where
  pub lines_start : (w : Queue) → Queued w → Grown (by_line u i i) w w
  unfolding by_line tos_between
  lines_start w h =
      grown_same (by_line u i i) w h
      (λ r l e. absurd (not_both e (ap (any_of (eqb r)) (tabulate_none (to_at u) i i (omega arith)) ∙ any_of_nil (eqb r))))

  pub lines_more : (line : ℕ) {b t : ℕ} {v w x : Queue} → i ≤ line → b ≡ get_or u (2 * line + 1) 0 → t ≡ b → Grown (by_line u i line) v w
      → Grown (is_position t) w x → Grown (by_line u i (line + 1)) v x
  unfolding is_position to_at
  lines_more line h e f a b = grown_join _ _ _ _ _ _ a b (λ r l. rw (f, e) (line_next u i line r h))

  pub lines_done : (line e : ℕ) → line - i ≤ e - i → e ≤ line → by_line u i line ≡ by_line u i e
  unfolding by_line tos_between
  lines_done line e h k = ap (λ (k : ℕ). λ (r : ℕ). any_of (eqb r) (tabulate (to_at u) i k)) (omega arith)

pub ruleset lining = (rules, lines_start, lines_more, lines_done)

-- one move of either side

pub next_joined : (g : List (List ℕ)) (m f : List ℕ) (a q i e : ℕ) {u v w : Queue} → Grown (by_action_in g q a) u v
    → i ≡ get_or f q 0 → e ≡ get_or f (q + 1) 0 → Grown (by_line m i e) v w → Grown (by_move_in g m f a q) u w
unfolding by_move_in
next_joined g m f a q i e x h k y =
    let z = add-one q in
    grown_join _ _ _ _ _ _ x (rw (h, k, z) at y) (λ r l. refl)

-- the search

pub queue_few : {w : Queue} → Queued w → length w.entries.items ≤ most_positions
queue_few {w} h = omega (arith, h.number, count_le (marked w.marks) most_positions)

-- the queue's positions lie on plays, the start is one, and the moves from the first n have been followed
pub record Searched (G : Game) (w : Queue) (n : ℕ) : Type 0 where
  pub queued : Queued w
  pub followed : n ≤ length w.entries.items
  pub inside : length w.entries.items ≤ most_positions
  pub begins : marked w.marks G.start ≡ true
  pub sound : (r : ℕ) → marked w.marks r ≡ true → OnPlay G r
  pub closed : (i : ℕ) → i < n → (r : ℕ) → leads G (get_or w.entries.items i 0) r ≡ true → marked w.marks r ≡ true

module _ (G : Game) (legal : Legal G) (few : G.positions ≤ most_positions) where
  start_inside : G.start < most_positions
  start_inside = omega (arith, legal.start_position)

  search_start : {u w : Queue} → ((r : ℕ) → marked u.marks r ≡ false) → Grown (is_position G.start) u w → Searched G w 0
  unfolding is_position last_from
  search_start {u} {w} none a =
      record {
        queued = a.queued;
        followed = omega arith;
        inside = queue_few a.queued;
        begins =
            ap (λ (m : List Bool). marked m G.start) a.marks
            ∙ mark_with _ u.marks G.start start_inside
            ∙ either_right _ _ (eq-eqb G.start G.start refl);
        sound = λ r e. start_on r (mark_cases _ u.marks r (ap (λ (m : List Bool). marked m r) (sym a.marks) ∙ e));
        closed = λ i l. absurd (omega arith);
      }
    where
      start_on : (r : ℕ) → either (marked u.marks r) (eqb r G.start) ≡ true → OnPlay G r
      start_on r e =
          ⊎_elim
          (λ (m : marked u.marks r ≡ true). absurd (not_both m (none r)))
          (λ (s : eqb r G.start ≡ true). record { play = origin; is_play = begun; ends = sym (eqb-true r G.start s) })
          (either_cases _ _ e)

  search_next : (n q : ℕ) {v w : Queue} → Searched G v n → n < length v.entries.items → q ≡ get_or v.entries.items n 0 → Grown (leads G q) v w → Searched G w (n + 1)
  search_next n q {v} {w} s h e a =
      record {
        queued = a.queued;
        followed = omega (arith, a.no_fewer);
        inside = queue_few a.queued;
        begins = grows G.start s.begins;
        sound = λ r m. on_play r (either_cases _ _ (mark_cases _ v.marks r (ap (λ (m : List Bool). marked m r) (sym a.marks) ∙ m)));
        closed = closed;
      }
    where
      inside : (r : ℕ) → marked v.marks r ≡ true → r < most_positions
      inside r m = omega (arith, on_inside G legal r (s.sound r m))

      grows : (r : ℕ) → marked v.marks r ≡ true → marked w.marks r ≡ true
      grows r m =
          ap (λ (m : List Bool). marked m r) a.marks ∙ mark_with _ v.marks r (inside r m) ∙ either_left _ _ m

      here : marked v.marks q ≡ true
      here = ap (marked v.marks) e ∙ s.queued.holds n h

      on_play : (r : ℕ) → (marked v.marks r ≡ true) ⊎ (leads G q r ≡ true) → OnPlay G r
      on_play r x = ⊎_elim (λ m. s.sound r m) (λ l. leads_on G q r l (s.sound q here)) x

      closed : (i : ℕ) → i < n + 1 → (r : ℕ) → leads G (get_or w.entries.items i 0) r ≡ true → marked w.marks r ≡ true
      closed i l r m =
          ⊎_elim
          (λ (b : i < n). grows r (s.closed i b r (ap (λ p. leads G p r) (sym (a.kept i (omega arith))) ∙ m)))
          (λ (b : n ≤ i).
          let k : i ≡ n = omega arith in
          let o : leads G q r ≡ true = ap (λ p. leads G p r) (e ∙ sym (a.kept n h) ∙ ap (λ j. get_or w.entries.items j 0) (sym k)) ∙ m in
          ap (λ (m : List Bool). marked m r) a.marks
          ∙ mark_with _ v.marks r (omega (arith, leads_inside G legal q r o))
          ∙ either_right _ _ o)
          (below? i n)

  search_done : (n : ℕ) {w : Queue} → Searched G w n → length w.entries.items ≤ n → length w.entries.items ≡ reached G
  search_done n {w} s h =
      s.queued.number
      ∙ count_short (marked w.marks) G.positions most_positions few outside
      ∙ closed_count G legal (marked w.marks) s.sound s.begins closed
    where
      outside : (i : ℕ) → G.positions ≤ i → marked w.marks i ≡ false
      outside i l =
          ⊎_elim
          (λ (m : marked w.marks i ≡ true). absurd (omega (arith, on_inside G legal i (s.sound i m))))
          (λ (m : marked w.marks i ≡ false). m)
          (bool (marked w.marks i))

      closed : (p q : ℕ) → marked w.marks p ≡ true → leads G p q ≡ true → marked w.marks q ≡ true
      closed p q m l =
          let i = s.queued.has p m in
          s.closed i.0 (omega (arith, i.1)) q (ap (λ p. leads G p q) i.2 ∙ l)

-- before the start joins

no_mark : (r : ℕ) → marked (replicate most_positions false) r ≡ false
unfolding marked
no_mark r =
    ⊎_elim
    (λ (h : r < most_positions). get_or-replicate most_positions r false false h)
    (λ (h : most_positions ≤ r). get_or-eq_default (replicate most_positions false) false {n = r} (rw (length-replicate most_positions false) h))
    (below? r most_positions)

pub queue_empty : (e : ArrayVec ℕ) → e.items ≡ [] → Queued (queue_of (replicate most_positions false) e)
queue_empty e none =
    record {
      marks_length = length-replicate most_positions false;
      number = ap length none ∙ sym (count_short (marked (replicate most_positions false)) 0 most_positions (omega arith) (λ i h. no_mark i) ∙ count_nothing);
      holds = λ i h. absurd (omega (arith, ap length none));
      has = λ r e. absurd (not_both e (no_mark r));
    }
  where
    count_nothing : count (marked (replicate most_positions false)) 0 ≡ 0
    count_nothing = omega (arith, count_le (marked (replicate most_positions false)) 0)

-- the search on a checked sheet

module _ (s : List ℕ) (r : Checked s) where
  few : (game_of s).positions ≤ most_positions
  unfolding game_of
  few = (ranges s r).few_positions

  leads_read : (q : ℕ)
      → by_move_in (held_grid (is_holding s) (action_count s) (targets_body s)) (moves_body s) (firsts_of (moves_body s)) (action_count s) q ≡ leads (game_of s) q
  unfolding leads bodies_game view_of by_move_in by_action_in by_line
  leads_read q = ap (λ (G : Game). leads G q) (bodies_game_lem s r)

  pub reach_start : (w : Queue) (v : ArrayVec ℕ) (t : ℕ) → t ≡ get_or (body_of 2 s 0) 0 0
      → Grown (is_position t) (queue_of (replicate most_positions false) v) w → Searched (game_of s) w 0
  unfolding game_of start_of
  reach_start w v t e a = search_start (game_of s) (legal s r) few no_mark (rw e at a)

  pub reach_next : (n q i e a : ℕ) {u f : List ℕ} {g : List (List ℕ)} {v w x : Queue} → Searched (game_of s) v n → n < length v.entries.items
      → g ≡ held_grid (is_holding s) a (body_of 2 s 2) → a ≡ get_or (body_of 2 s 0) 1 0 → u ≡ body_of 2 s 3 → f ≡ firsts_of u → q ≡ get_or v.entries.items n 0
      → i ≡ get_or f q 0 → e ≡ get_or f (q + 1) 0 → Grown (by_action_in g q a) v w → Grown (by_line u i e) w x → Searched (game_of s) x (n + 1)
  unfolding action_count
  reach_next n q i e a {u} {f} {g} {v} {w} {x} so_far more eg ea eu ef eq ei ee y z =
      let joined : Grown (by_move_in g u f a q) v x = next_joined g u f a q i e y ei ee z in
      search_next (game_of s) (legal s r) few n q so_far more eq (rw (same ∙ leads_read q) at joined)
    where
      same : by_move_in g u f a q
          ≡ by_move_in (held_grid (is_holding s) (get_or (header_body s) 1 0) (targets_body s)) (moves_body s) (firsts_of (moves_body s))
          (get_or (header_body s) 1 0) q
      same = rw (eg, ef, eu, ea)

  pub reach_done : (w : Queue) → Searched (game_of s) w (length w.entries.items) → length w.entries.items ≡ reached (game_of s)
  reach_done w x = search_done (game_of s) (legal s r) few (length w.entries.items) x (omega arith)

pub ruleset reaching = (rules, reach_done)
