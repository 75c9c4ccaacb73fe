-- The products of the feeders and the consumers of a place, and what they leave in their place.
use Rattle.std.specs.Prelude.{◌≡◌, ℕ, ◌+◌, ◌-◌, ◌*◌, ◌<◌, ◌≤◌, Bool, false, cond, not, ◌&&◌, List, [], ◌∷◌, ◌++◌, map, length, Ok, Result, nat_eq, nat_lt, nat_le, slice_index, slice_set}
use Rattle.std.specs.List.{range_with_len, list_all}
use Rattle.net.specs.declared.net.NetFault.{NetFault}
use Rattle.net.specs.declared.net.NetFault.TheVariants.{WrongSize, TooManyTransitions, BadWeight}
use Rattle.net.specs.declared.net.Side.{Side}
use Rattle.net.specs.declared.net.Side.TheVariants.{Takes, Puts}
use Rattle.net.specs.Refusals.{Check, ◌unless◌, judged}
use Rattle.net.specs.Sheets.{Row, number, most_weight, most_transitions}
use Rattle.net.specs.States.{State, sized, mark}
use Rattle.theory.specs.Tests.{every_place, feeder?, consumer?, feeders, consumers, products_fit?}
use Rattle.theory.specs.Rewrites.{rewritten, kept_rows, merging, post_row, pre_row}
use Rattle.products.specs.declared.pairs.Kind.{Kind}
use Rattle.products.specs.declared.pairs.Kind.TheVariants.{Post, Pre}
use Rattle.products.specs.declared.pairs.Pair.{Pair}
use Rattle.products.specs.declared.tally.Tally.{Tally}

-- The product of feeder `h` and consumer `f` of place `p`.
abbrev pub product_row : Kind → State → ℕ → ℕ → ℕ → Row
product_row Post s p = post_row s p
product_row Pre s p = pre_row s p

abbrev pub pair_row : Pair → State → Row
pair_row x s = product_row x.kind s x.p x.h x.f

-- The weight of a row at a place, on one side.
abbrev pub weight_of : Row → Side → ℕ → ℕ
weight_of r Takes q = r.takes q
weight_of r Puts q = r.puts q

-- The 128 numbers of a row are within the limit of weights.
abbrev pub Weights : List ℕ → Type 0
Weights xs = (j : ℕ) → j < 128 → slice_index xs j ≤ most_weight

-- Number `j` of a product, of those of its feeder and its consumer: of its takes, where that is less than 64, else of its puts.
abbrev pub post_number : ℕ → ℕ → ℕ → ℕ → ℕ → ℕ
post_number h f p k j = cond (nat_lt j 64) h (cond (nat_eq (j - 64) p) 0 h + k * f)

abbrev pub pre_number : ℕ → ℕ → ℕ → ℕ → ℕ
pre_number h f p j = cond (nat_lt j 64) (h + cond (nat_eq j p) 0 f) f

-- The weights of a row are within the limit; those of the products of `h` and these consumers; those of the products of these feeders
-- and consumers. Of all feeders and consumers it is `products_fit?`.
abbrev pub row_in_limits? : Row → Bool
row_in_limits? r = every_place (λ q. nat_le (r.takes q) most_weight && nat_le (r.puts q) most_weight)

abbrev pub consumers_fit? : Kind → State → ℕ → ℕ → List ℕ → Bool
consumers_fit? k s p h fs = list_all (λ f. row_in_limits? (product_row k s p h f)) fs

abbrev pub feeders_fit? : Kind → State → ℕ → List ℕ → List ℕ → Bool
feeders_fit? k s p hs fs = list_all (λ h. consumers_fit? k s p h fs) hs

-- The 128 numbers of a row. They stay shut, since opened they would be counted out.
unfoldable pub numbers : Row → List ℕ
numbers r = map (number r) (range_with_len 0 128)

-- A transition that neither feeds `p` nor consumes from it stays.
abbrev pub apart? : State → ℕ → ℕ → Bool
apart? s p t = not (feeder? s p t) && not (consumer? s p t)

-- The feeders and the consumers of `p` are dropped, other rows follow, and `p` goes.
abbrev pub replacing : List Row → ℕ → State → State
replacing qs p s = rewritten s (mark s) (kept_rows (apart? s p) s ++ qs) (slice_set s.standing p false)

-- What is asked of a net before its feeders and consumers of `p` are replaced by their products: its size, and room for the products,
-- then their limits.
abbrev pub room_table : Kind → ℕ → State → List (Check NetFault)
room_table k p s =
    WrongSize unless sized s
    ∷ TooManyTransitions unless (nat_le (length (feeders s p) * length (consumers s p)) 32
    && nat_le (merging (product_row k s p) p s).transitions most_transitions)
    ∷ []

abbrev pub merge_table : Kind → ℕ → State → List (Check NetFault)
merge_table k p s = room_table k p s ++ BadWeight unless products_fit? s p (product_row k s p) ∷ []

-- So there is room for them.
abbrev pub Roomy : Kind → ℕ → State → Type 0
Roomy k p s = ◌≡◌ {A = Result Unit NetFault} (Ok tt) (judged (room_table k p s) tt)

-- A tally of the transitions lists the feeders and the consumers of `p`, and says how many there are after an agglomeration.
pub record Tallied (t : Tally) (p : ℕ) (s : State) : Type 0 where
  pub feeding : t.feeders.items ≡ feeders s p
  pub consuming : t.consumers.items ≡ consumers s p
  pub few : t.rest ≤ 96
  pub after : (product : ℕ → ℕ → Row) → t.rest + length (feeders s p) * length (consumers s p) ≡ (merging product p s).transitions

abbrev pub merged : Kind → ℕ → State → Result State NetFault
merged k p s = judged (merge_table k p s) (merging (product_row k s p) p s)
