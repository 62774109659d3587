-- What a drawer is, in the parts that the laws use; and the record of an id.
use mathlib.Core.Path.{◌≡◌}
use mathlib.Core.Bool.{Bool, true, ◌&&◌}
use mathlib.Core.List.{List, [], ◌∷◌}
use Prim.Native.Nat.{ℕ, ◌+◌, ◌*◌, ◌%◌, ◌<◌, ◌≤◌}
use native.Mathlib.Omega.{arith}
use lib.Dec.{eqb}
use lib.ListN.{length}
use borrow.Author.Tests.{eqb-true}
use Rattle.words.specs.Words.{word_at}
use Rattle.numbers.proofs.TestLaws.{and_left, and_right}
use Rattle.drawer.specs.Chains.{walk}
use Rattle.drawer.proofs.Links.{Links}
use Rattle.drawer.specs.Drawer.{id_in, is_whole, is_filled, is_drawer}
use Rattle.drawer.specs.Search.{records, record_of}
use Rattle.drawer.proofs.CheckLaws.{Below, placed_below}
use Rattle.drawer.proofs.PassedLaws.{Fine, filled_fine, of_below}
use Rattle.drawer.proofs.SeekLaws.{Stopped, stopped, stopped_at}
use Rattle.drawer.proofs.WidthLaws.{next_record}
use Rattle.drawer.proofs.SizeLaws.{whole_parts}

pub record Parts (width : ℕ) (s : List ℕ) : Type 0 where
  pub size : length s ≡ 4 * (width * records width s)
  pub some : 0 < records width s
  pub most : records width s ≤ 65536
  pub named : word_at s 17 ≡ 4 * width
  pub filled : is_filled width (word_at s) (records width s) ≡ true

pub parts : (width : ℕ) (s : List ℕ) → is_drawer width s ≡ true → Parts width s
unfolding is_drawer
parts width s e =
    let rest = and_right (is_whole width (length s)) (eqb (word_at s 17) (4 * width) && is_filled width (word_at s) (records width s)) e in
    let whole = whole_parts width (length s) (and_left (is_whole width (length s)) (eqb (word_at s 17) (4 * width) && is_filled width (word_at s) (records width s)) e) in
    record {
      size = whole.0;
      some = whole.1;
      most = whole.2;
      named = eqb-true (word_at s 17) (4 * width) (and_left (eqb (word_at s 17) (4 * width)) (is_filled width (word_at s) (records width s)) rest);
      filled = and_right (eqb (word_at s 17) (4 * width)) (is_filled width (word_at s) (records width s)) rest;
    }

pub head_low : (x : ℕ) → x % 16 < 16
head_low x = omega arith

module _ (width : ℕ) (s : List ℕ) (d : Parts width s) where
  pub chain_fine : (k : ℕ) → k < 17 → Fine width (word_at s) (records width s) k (walk width (word_at s) (records width s) k)
  chain_fine k h = filled_fine width (word_at s) (records width s) d.some k d.filled h

  pub search_stops : (stop : ℕ → Bool) (k : ℕ) → k < 17 → Stopped width stop (word_at s) (records width s) (records width s) k (walk width (word_at s) (records width s) k)
  search_stops stop k h =
      let f = chain_fine k h in
      stopped width stop (word_at s) (records width s) (records width s) k (walk width (word_at s) (records width s) k) f.links (placed_below width (word_at s) (records width s) k (walk width (word_at s) (records width s) k) f.placed) f.short

  pub record_below : (x : ℕ) → 0 < record_of width s x → record_of width s x < records width s
  record_below x some =
      let k = x % 16 in
      let f = chain_fine k (omega (arith, head_low x)) in
      let a = stopped_at width (λ r. eqb (id_in width (word_at s) r) x) (word_at s) (records width s) (records width s) k (walk width (word_at s) (records width s) k) f.links (search_stops (λ r. eqb (id_in width (word_at s) r) x) k (omega (arith, head_low x))) some in
      of_below (records width s) (walk width (word_at s) (records width s) k) (record_of width s x) (placed_below width (word_at s) (records width s) k (walk width (word_at s) (records width s) k) f.placed) a.3

  pub record_room : (x : ℕ) → 0 < record_of width s x → 4 * (width * record_of width s x + width) ≤ length s
  record_room x some = omega (arith, next_record width (record_of width s x) (records width s) (record_below x some), d.size)

  pub free_below : 0 < word_at s 16 → word_at s 16 < records width s
  free_below some = go (walk width (word_at s) (records width s) 16) f.links (placed_below width (word_at s) (records width s) 16 (walk width (word_at s) (records width s) 16) f.placed)
    where
      f : Fine width (word_at s) (records width s) 16 (walk width (word_at s) (records width s) 16)
      f = chain_fine 16 (omega arith)

      go : (l : List ℕ) → Links width (word_at s) 16 l → Below (records width s) l → word_at s 16 < records width s
      go [] h b = absurd (omega (arith, h))
      go (r ∷ l) h b = omega (arith, h.0, b.0)
