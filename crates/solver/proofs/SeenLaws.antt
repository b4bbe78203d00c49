-- Bits only go out, so that a target and a word whose callers were marked need not be marked again. Assumes nothing.
use Prim.Native.Nat.{ℕ, ◌+◌, ◌-◌, ◌*◌, ◌/◌, ◌%◌, ◌^◌, ◌≤◌, ◌<◌}
use mathlib.Core.Path.{◌≡◌, refl, sym, ◌∙◌, ap}
use mathlib.Core.Bool.{Bool, true, false}
use mathlib.Core.List.Memᴰ
use mathlib.Core.List.{List, [], ◌∷◌, map, Memᴰ}
use mathlib.Core.Logic.{⊎_elim}
use native.Mathlib.Omega.{arith}
use native.Mathlib.Nat.{mul-add-div_right, mul-add-mod_self_right, div-eq_of_lt, mod-eq_of_lt}
use lib.ListN.{length, get_or, set, length-set, take, get_or-eq_default}
use lib.Seq.{get_or-set_same, get_or-set_other, get_or-take, length-take-le}
use borrow.Author.Tests.{eq-eqb, ne_eqb, lt-ltb, le-ltb}
use Rattle.theory.specs.Table.{bit}
use Rattle.theory.proofs.Fold.{bool, not_both, below?, same?}
use Rattle.theory.proofs.Masks.{zero_bit}
use Rattle.sheet.specs.Limits.{most_nodes}
use Rattle.solver.specs.code.Spread.{Spot}
use Rattle.solver.specs.code.Work.{Work, fall_to, leave_to, mark_to, marks_to}
use Rattle.solver.specs.code.Chains.{chain, head_of}
use Rattle.solver.specs.code.Spread.{Spotted, caller_at, callers}
use Rattle.solver.specs.code.Seen.{Clear, Seen}
use Rattle.solver.proofs.BitLaws.{bit_out, bit_still, some_mask, there, store_out}
use Rattle.solver.proofs.StateLaws.{mask_of, Went, went_none, went_on}

-- what one step leaves: the bit is out where the queue still has room
pub record Marks (c : ℕ) (w w' : Work) (k : ℕ) : Type 0 where
  pub went : Went w w'
  pub gone : w'.tail < length w'.queue → bit (mask_of w' k) c ≡ false

module _ (n c : ℕ) (w : Work) (k : ℕ) where
  module _ (e : bit (mask_of w k) c ≡ true) where
    node : k < length w.masks
    node = there w.masks k (some_mask (mask_of w k) c e)

    falls : Marks c w (fall_to n w k) k
    unfolding fall_to
    falls =
        ⊎_elim
        (λ (h : w.tail < length w.queue).
        rw (lt-ltb w.tail (length w.queue) h)
        (record {
          went =
              record {
                out = store_out w.masks k 0 node (λ d z. zero_bit d);
                queue = λ i l. get_or-set_other w.queue w.tail i k 0 (λ e. omega arith);
                tail = omega arith;
                size = length-set w.queue w.tail k;
              };
          gone = λ r. ap (λ (x : ℕ). bit x c) (get_or-set_same w.masks k 0 0 node) ∙ zero_bit c;
        }))
        (λ (h : length w.queue ≤ w.tail).
        rw (le-ltb w.tail (length w.queue) h) (record { went = went_none w; gone = λ r. absurd (omega arith) }))
        (below? w.tail (length w.queue))

    leaves : Marks c w (leave_to n w k (mask_of w k - 2 ^ c)) k
    unfolding leave_to
    leaves =
        ⊎_elim
        (λ (q : mask_of w k - 2 ^ c ≡ 0). rw (eq-eqb (mask_of w k - 2 ^ c) 0 q) falls)
        (λ (z : mask_of w k - 2 ^ c ≡ 0 → ⊥).
        rw (ne_eqb (mask_of w k - 2 ^ c) 0 z)
        (record {
          went =
              record {
                out = store_out w.masks k (mask_of w k - 2 ^ c) node (λ d. bit_still (mask_of w k) c d e);
                queue = λ i l. refl;
                tail = omega arith;
                size = refl;
              };
          gone = λ r. ap (λ (x : ℕ). bit x c) (get_or-set_same w.masks k (mask_of w k - 2 ^ c) 0 node) ∙ bit_out (mask_of w k) c e;
        }))
        (same? (mask_of w k - 2 ^ c) 0)

  mark_went : Marks c w (mark_to n c w k) k
  unfolding mark_to
  mark_went =
      ⊎_elim
      (λ (e : bit (mask_of w k) c ≡ true). rw e (leaves e))
      (λ (e : bit (mask_of w k) c ≡ false). rw e (record { went = went_none w; gone = λ r. e }))
      (bool (bit (mask_of w k) c))

  mark_quiet : bit (mask_of w k) c ≡ false → mark_to n c w k ≡ w
  unfolding mark_to
  mark_quiet e = rw e

module _ (n c : ℕ) where
  marks_went : (ks : List ℕ) (w : Work) → Went w (marks_to n c w ks)
  unfolding marks_to
  marks_went [] w = went_none w
  marks_went (k ∷ ks) w = went_on (mark_went n c w k).went (marks_went ks (mark_to n c w k))

  module _ (f : ℕ → ℕ) where
    -- nothing happens where the bits are out
    marks_quiet : (xs : List ℕ) (w : Work) → ((x : ℕ) → Memᴰ x xs → bit (mask_of w (f x)) c ≡ false) → marks_to n c w (map f xs) ≡ w
    unfolding marks_to
    marks_quiet [] w out = refl
    marks_quiet (x ∷ xs) w out =
        ap (λ v. marks_to n c v (map f xs)) (mark_quiet n c w (f x) (out x (Memᴰ.head refl)))
        ∙ marks_quiet xs w (λ y m. out y (Memᴰ.tail m))

    -- they are out where the queue still has room
    marks_gone : (xs : List ℕ) (w : Work) → (marks_to n c w (map f xs)).tail < length (marks_to n c w (map f xs)).queue → (x : ℕ) → Memᴰ x xs
        → bit (mask_of (marks_to n c w (map f xs)) (f x)) c ≡ false
    unfolding marks_to
    marks_gone [] w room x m = absurd (Memᴰ.not-nil m)
    marks_gone (y ∷ xs) w room x m =
        let one = mark_went n c w (f y) in
        let more = marks_went (map f xs) (mark_to n c w (f y)) in
        let t = more.tail in
        let s = more.size in
        let here : bit (mask_of (mark_to n c w (f y)) (f y)) c ≡ false = one.gone (omega arith) in
        ⊎_elim
        (λ (q : x ≡ y). more.out (f x) c (ap (λ z. bit (mask_of (mark_to n c w (f y)) (f z)) c) q ∙ here))
        (λ (r : Memᴰ x xs). marks_gone xs (mark_to n c w (f y)) room x r)
        (Memᴰ.cases_cons m)

-- notes stay right where bits go out
module _ {heads cells : List ℕ} {words younger actions : ℕ} where
  pub seen_kept : (n c : ℕ) (ks : List ℕ) {seen : List Bool} (w : Work) {v : Work} → v ≡ marks_to n c w ks → Seen heads cells words younger actions seen w.masks
      → Seen heads cells words younger actions seen v.masks
  seen_kept n c ks w e known =
      rw e (record { out = λ s z x m. (marks_went n c ks w).out _ _ (known.out s z x m) })

  pub seen_none : {seen : List Bool} {masks : List ℕ} → Clear seen → Seen heads cells words younger actions seen masks
  seen_none clear = record { out = λ s z x m. absurd (not_both z (clear.none s)) }

-- one target and the spot's word
module _ (heads cells : List ℕ) (p : Spot) (small : Spotted p) (t : ℕ) where
  target_is : (t * p.words + p.word) / p.words ≡ t
  target_is =
      let h = small.word_inside in
      let o : 0 < p.words = omega arith in
      let z : p.word / p.words ≡ 0 = div-eq_of_lt h in
      mul-add-div_right o t p.word ∙ (let q : t + p.word / p.words ≡ t = omega arith in q)

  word_is : (t * p.words + p.word) % p.words ≡ p.word
  word_is = mul-add-mod_self_right t p.words p.word ∙ mod-eq_of_lt small.word_inside

  abbrev Known : List Bool → List ℕ → Type 0
  Known seen masks = Seen heads cells p.words p.younger p.actions seen masks

  -- the place of a note is that of its target and word
  abbrev Outs : ℕ → ℕ → List ℕ → Type 0
  Outs q v masks =
      (x : ℕ) → Memᴰ x (chain cells (head_of heads q))
      → bit (get_or masks ((x / 8) * p.words + (x % 8) * p.younger + v / p.actions) 0) (v % p.actions) ≡ false

  module _ (n : ℕ) (w : Work) where
    outs_there : (masks : List ℕ) → ((x : ℕ) → Memᴰ x (chain cells (head_of heads t)) → bit (get_or masks (caller_at p x) 0) p.action ≡ false)
        → Outs t p.word masks
    unfolding caller_at
    outs_there masks o x m = grind (arith, small.rest_is, small.action_is, o x m)

    outs_here : (masks : List ℕ) → Outs t p.word masks
        → (x : ℕ) → Memᴰ x (chain cells (head_of heads t)) → bit (get_or masks (caller_at p x) 0) p.action ≡ false
    unfolding caller_at
    outs_here masks o x m = grind (arith, small.rest_is, small.action_is, o x m)

    outs_place : (masks : List ℕ) → Outs t p.word masks → Outs ((t * p.words + p.word) / p.words) ((t * p.words + p.word) % p.words) masks
    outs_place masks o = rw (target_is, word_is) o

    outs_target : (masks : List ℕ) → Outs ((t * p.words + p.word) / p.words) ((t * p.words + p.word) % p.words) masks → Outs t p.word masks
    outs_target masks o = rw (target_is, word_is) at o

    -- where it is noted, nothing is left to do
    pub seen_quiet : (seen : List Bool) → Known seen w.masks → get_or seen (t * p.words + p.word) false ≡ true
        → w ≡ marks_to n p.action w (callers cells p (head_of heads t))
    unfolding callers
    seen_quiet seen known e =
        sym
        (marks_quiet n p.action (caller_at p) (chain cells (head_of heads t)) w
        (outs_here w.masks (outs_target w.masks (known.out (t * p.words + p.word) e))))

    pub seen_noted : (seen : List Bool) {v : Work} → Known seen w.masks → v ≡ marks_to n p.action w (callers cells p (head_of heads t))
        → v.tail < length v.queue → t * p.words + p.word < length seen → Known (set seen (t * p.words + p.word) true) v.masks
    unfolding callers
    seen_noted seen {v} known e room inside =
        let kept = seen_kept n p.action _ w e known in
        let gone : (x : ℕ) → Memᴰ x (chain cells (head_of heads t)) → bit (get_or v.masks (caller_at p x) 0) p.action ≡ false =
        rw e (marks_gone n p.action (caller_at p) (chain cells (head_of heads t)) w (rw e at room)) in
        record {
          out =
              λ s z.
              ⊎_elim
              (λ (q : s ≡ t * p.words + p.word). rw q (outs_place v.masks (outs_there v.masks gone)))
              (λ (d : s ≡ t * p.words + p.word → ⊥). kept.out s (sym (get_or-set_other seen (t * p.words + p.word) s true false d) ∙ z))
              (same? s (t * p.words + p.word));
        }

-- the first notes
pub clear_part : (n : ℕ) (seen : List Bool) → length seen ≡ most_nodes → ((i : ℕ) → i < most_nodes → get_or seen i false ≡ false) → n ≤ most_nodes → Clear (take n seen)
clear_part n seen size zeros h =
    record {
      none =
          λ s.
          ⊎_elim
          (λ (l : s < n). get_or-take n seen s false l ∙ zeros s (omega arith))
          (λ (l : n ≤ s). get_or-eq_default (take n seen) false (let q = length-take-le n seen (omega arith) in omega arith))
          (below? s n);
    }
