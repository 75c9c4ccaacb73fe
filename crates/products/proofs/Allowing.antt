-- What it says that there is room for the products.
use Rattle.std.proofs.Common.{◌≡◌, ℕ, ◌+◌, ◌*◌, ◌≤◌, true, leb, length, sym, arith, length-append}
use Rattle.std.proofs.lemmas.Bool.{and_parts, eqb-true, leb-true}
use Rattle.net.specs.States.{State}
use Rattle.net.proofs.Tables.{passed}
use Rattle.theory.specs.Tests.{feeders, consumers}
use Rattle.theory.specs.Rewrites.{kept_rows, crossed, merging}
use Rattle.products.specs.declared.pairs.Kind.{Kind}
use Rattle.products.specs.Products.{product_row, apart?, room_table, Roomy}

module _ (k : Kind) (p : ℕ) (s : State) (passes : Roomy k p s) where
  pub allowed_size : length s.sheet ≡ 12352
  allowed_size = eqb-true (length s.sheet) 12352 (passed (room_table k p s) tt tt (sym passes)).0.0

  room : (leb (length (feeders s p) * length (consumers s p)) 32 ≡ true) × (leb (merging (product_row k s p) p s).transitions 96 ≡ true)
  room = and_parts _ _ (passed (room_table k p s) tt tt (sym passes)).0.1.0

  pub allowed_pairs : length (feeders s p) * length (consumers s p) ≤ 32
  allowed_pairs = leb-true (length (feeders s p) * length (consumers s p)) 32 room.0

  -- As many rows as the products.
  pub allowed_rows : (n : ℕ) → n ≡ length (crossed (product_row k s p) (feeders s p) (consumers s p)) → length (kept_rows (apart? s p) s) + n ≤ 96
  allowed_rows n count = omega (arith, whole, leb-true (merging (product_row k s p) p s).transitions 96 room.1)
    where
      whole : (merging (product_row k s p) p s).transitions ≡ length (kept_rows (apart? s p) s) + length (crossed (product_row k s p) (feeders s p) (consumers s p))
      whole = length-append (kept_rows (apart? s p) s) (crossed (product_row k s p) (feeders s p) (consumers s p))
