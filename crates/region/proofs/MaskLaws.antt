-- The masks, as the code of src/masks.rt makes them. Assumes nothing.
use Prim.Native.Nat.{ℕ, ◌+◌, ◌-◌, ◌*◌, ◌/◌, ◌%◌, ◌^◌, ◌≤◌, ◌<◌}
use mathlib.Core.Path.{◌≡◌, refl, sym, ◌∙◌, ap}
use mathlib.Core.Bool.{Bool, true, false, not, cond}
use mathlib.Core.List.{List}
use native.Mathlib.Omega.{arith}
use native.Mathlib.Nat.{mod-eq_of_lt}
use mir.Val.{Fits, bool_byte as from_bool}
use mir.Syntax.{w8, w64}
use lib.Pow.{pow_mono, pow-lt}
use lib.Dec.{eqb}
use lib.ListN.{length}
use borrow.Author.Rules.{rules}
use borrow.Author.Tests.{eq-eqb, ne_eqb}
use Rattle.theory.specs.Fold.{both}
use Rattle.theory.specs.Rounds.{Arena, spoilt_by, kept_by, mask_below}
use Rattle.theory.specs.Table.{bit}
use Rattle.theory.proofs.Fold.{both_none, both_second}
use Rattle.theory.proofs.Masks.{mask_next, mask_lt, mask_same, full_bit}
use Rattle.walk.specs.declared.level.Level.{Level}
use Rattle.walk.specs.code.Levels.{arena_of}
use Rattle.sheet.specs.code.Arrays.{view_of}
use Rattle.walk.specs.code.Nodes.{Sized, is_node}
use Rattle.walk.specs.code.Arenas.{spoilt}
use Rattle.walk.specs.declared.arena.Fallen.{Fallen}
use Rattle.walk.specs.declared.sized.SizedArena.{SizedArena}
use Rattle.walk.specs.declared.sized.SizedNode.{SizedNode}
use Rattle.std.specs.Prelude.{Option, Some, None, IfSome, is_some}
use Rattle.walk.specs.code.Walks.{fallen_by, spoilt_answer}
use Rattle.walk.proofs.NodeLaws.{at_action, fitted}
use Rattle.theory.proofs.Filling.{filled, filled_none, filled_more, filled_done}
use Rattle.region.specs.code.Kept.{on_side, allowed_in, mask_in, masks_in, masks_after}
use Rattle.region.proofs.GoodLaws.{kept_is}
use Rattle.sheet.specs.Limits.{most_actions}

-- a bit that is set in a mask or is not

pub bit_in : (m c : ℕ) {b : Bool} → m / 2 ^ c % 2 ≡ 1 → b ≡ both (bit m c) b
unfolding bit
bit_in m c e = sym (both_second _ _ (eq-eqb _ _ e))

pub bit_out : (m c : ℕ) (b : Bool) → (m / 2 ^ c % 2 ≡ 1 → ⊥) → eqb (m / 2 ^ c % 2) 1 ≡ both (bit m c) b
unfolding bit
bit_out m c b n = let e = ne_eqb (m / 2 ^ c % 2) 1 n in e ∙ sym (both_none _ _ e)

-- whether an action is spoilt at a node, by the node taken apart, if it is there

module _ (a : SizedArena) (f : Fallen) (k c : ℕ) where
  pub spoilt_here : {o : Option SizedNode} {x : SizedNode} → o ≡ Some x → IfSome o (λ x. (x.sized.now ≡ a) × (x.k ≡ k))
      → spoilt x.sized.now.arena.now f x.k c ≡ spoilt a.arena.now f k c
  spoilt_here {o} {x} e h = let y = rw e at h in rw (y.0, y.1) refl

  pub spoilt_nowhere : {o : Option SizedNode} → o ≡ None → is_some o ≡ is_node (length a.arena.now.positions.now) a.arena.now.level k
      → true ≡ not (spoilt a.arena.now f k c)
  spoilt_nowhere {o} e h = ap not (sym (both_none _ _ (sym h ∙ ap is_some e)))

-- the mask of the actions below c that pass a test, and the next one's bit, as code shifts it

module _ (p : ℕ → Bool) (c : ℕ) {a v x : ℕ} {b : Bool} (h : c < a) (l : a ≤ most_actions) (e : v ≡ mask_below p c) (q : x ≡ from_bool b)
    (t : b ≡ p c) where
  shifted : x * 2 ^ c % 2 ^ 64 ≡ cond (p c) (2 ^ c) 0
  shifted =
      let i : c < 64 = omega arith in
      let o : 2 ^ c < 2 ^ 64 = pow-lt i in
      rw (q, ← t) (by b (omega arith))
    where
      by : (b : Bool) → 2 ^ c < 2 ^ 64 → from_bool b * 2 ^ c % 2 ^ 64 ≡ cond b (2 ^ c) 0
      by true o = let e : 1 * 2 ^ c ≡ 2 ^ c = omega arith in rw e (mod-eq_of_lt o)
      by false o = let e : 0 * 2 ^ c ≡ 0 = omega arith in rw e refl

  pub mask_more : v + x * 2 ^ c % 2 ^ 64 ≡ mask_below p (c + 1)
  mask_more = rw (shifted, e) (sym (mask_next p c))

  -- the next bit fits too
  pub mask_fits : Fits w64 (v + x * 2 ^ c % 2 ^ 64)
  mask_fits =
      let n = mask_lt p (c + 1) in
      let j : c + 1 ≤ most_actions = omega arith in
      let o : 2 ^ (c + 1) ≤ 2 ^ most_actions = pow_mono j in
      let m = mask_more in
      record { fits = omega arith }

-- the mask of a node

module _ (p : List ℕ) (g : List (List ℕ)) (u f : List ℕ) (l : Level) (n : ℕ) (ranks : List ℕ) (k : ℕ) (z : Sized (length p) l) (h : k < l.nodes) where
  abbrev here : Arena
  here = arena_of p g u f l

  -- at a node that exists, what is left of a mask is what theory leaves
  pub part_here : (m : ℕ)
      → mask_below (λ c. both (bit m c) (not (spoilt_answer p g u f l ranks n k c))) l.actions
      ≡ mask_below (λ c. both (bit m c) (not (spoilt_by here (fallen_by n ranks) k c))) l.actions
  part_here m = mask_same _ _ l.actions (λ c a. ap (λ b. both (bit m c) (not b)) (at_action (length p) l k c z h a refl))

  module _ {m r : ℕ} (e : m ≡ 2 ^ l.actions - 1) (q : r ≡ mask_below (λ c. both (bit m c) (not (spoilt_answer p g u f l ranks n k c))) l.actions) where
    whole : r ≡ mask_below (λ c. not (spoilt_by here (fallen_by n ranks) k c)) l.actions
    whole = q ∙ part_here m ∙ mask_same _ _ l.actions (λ c a. both_second _ _ (rw e (full_bit l.actions c a)))

    pub whole_fits : Fits w8 r
    whole_fits =
        let w = mask_lt (λ c. not (spoilt_by here (fallen_by n ranks) k c)) l.actions in
        let o : 2 ^ l.actions ≤ 2 ^ most_actions = pow_mono z.few_actions in
        let d = whole in
        record { fits = omega arith }

    pub whole_mask : {b : Bool} → b ≡ kept_by (on_side p l) ranks k → b ≡ true → r ≡ mask_in here n ranks k
    unfolding mask_in allowed_in arena_of view_of
    whole_mask e t = whole ∙ rw (sym (kept_is p g u f l ranks k) ∙ sym e ∙ t) refl

-- the loop over the nodes

module _ (p : List ℕ) (g : List (List ℕ)) (u f : List ℕ) (l : Level) (n : ℕ) (ranks before : List ℕ) where
  abbrev entry : ℕ → ℕ
  entry = mask_in (arena_of p g u f l) n ranks

  pub masks_all : (k : ℕ) → k ≤ length before → length before ≤ k → Sized (length p) l → length before ≡ l.nodes
      → filled entry k before ≡ masks_in (arena_of p g u f l) n ranks
  unfolding masks_in arena_of view_of
  masks_all k h j s e = filled_done entry before k (length p * l.words) refl (e ∙ s.all_nodes) (omega (arith, s.all_nodes)) (omega (arith, s.all_nodes))

  -- for those who know that level and buffer fit
  pub masks_known : {m : List ℕ} → Sized (length p) l → length before ≡ l.nodes → m ≡ masks_after p g u f l n ranks before
      → m ≡ masks_in (arena_of p g u f l) n ranks
  masks_known s e q = rw (fitted (length p) l (length before) s e) at q

pub ruleset all_masks = (rules, filled_none, filled_more, masks_all)
