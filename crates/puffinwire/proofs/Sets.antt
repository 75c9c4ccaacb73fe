-- The set of flags as a number: it has as many bits as there are flags, and grows by one flag in front.
use Rattle.std.proofs.Common.{◌≡◌, ◌∙◌, refl, rules, ℕ, ◌+◌, ◌*◌, ◌^◌, ◌<◌, ◌≤◌, Bool, true, false, List, [], ◌∷◌, ◌++◌, length}
use Rattle.std.specs.List.{push}
use Rattle.std.proofs.lemmas.List.{length-append, append_assoc}
use Rattle.std.proofs.Math.Pow.{pow_mono}
use mir.Val.{bool_byte}
use Rattle.puffinwire.specs.Reports.{set_number}

pub within : (bs : List Bool) → set_number bs < 2 ^ length bs
within [] = search rules
within (true ∷ bs) = let h = within bs in search (rules, h)
within (false ∷ bs) = let h = within bs in search (rules, h)

-- The flags that a loop from the last to the first has gathered, and those that it has left.
pub record Gathers (set : ℕ) (left flags : List Bool) : Type 0 where
  pub seen : List Bool
  pub whole : flags ≡ left ++ seen
  pub sum : set ≡ set_number seen

pub starts : (left flags : List Bool) → left ≡ flags → Gathers 0 left flags
starts left flags e = record { seen = []; whole = search (rules, e); sum = refl }

pub grows : (set : ℕ) (left flags : List Bool) (x : Bool) → Gathers set (push left x) flags → Gathers (2 * set + bool_byte x) left flags
grows set left flags true g = record { seen = true ∷ g.seen; whole = g.whole ∙ append_assoc left (true ∷ []) g.seen; sum = let e = g.sum in search (rules, e) }
grows set left flags false g = record { seen = false ∷ g.seen; whole = g.whole ∙ append_assoc left (false ∷ []) g.seen; sum = let e = g.sum in search (rules, e) }

-- With one flag more to come, the set has room for it.
pub room : (set : ℕ) (left flags : List Bool) (x : Bool) → length flags ≡ 64 → Gathers set (push left x) flags → 2 * set + 1 < 2 ^ 64
room set left flags x n g =
    let e = g.whole in
    let a = length-append (push left x) g.seen in
    let b = length-append left (x ∷ []) in
    let few : length g.seen ≤ 63 = search (rules, e, a, b, n) in
    let h = within g.seen in
    let m = pow_mono few in
    let s = g.sum in
    search (rules, h, m, s)

pub gathered : (set : ℕ) (left flags : List Bool) → length left ≡ 0 → Gathers set left flags → set ≡ set_number flags
gathered set [] flags n g = let e = g.whole in let s = g.sum in search (rules, e, s)
gathered set (x ∷ left) flags n g = search (rules, n)
