-- The house book judges the bytes of a step as the definition of the step does.
use Rattle.std.proofs.Common.{◌≡◌, ℕ, ◌+◌, ◌*◌, ◌/◌, ◌%◌, Bool, true, false, cond, ◌&&◌, ltb, List, length, get_or, take, is_some, Ok, Err, Result, refl, ap, ◌∙◌, arith}
use Rattle.std.proofs.lemmas.List.{take_all}
use Rattle.net.specs.declared.net.NetFault.TheVariants.{WrongSize}
use Rattle.net.specs.States.{State, sized}
use Rattle.theory.specs.declared.refusal.Refusal.{Refusal}
use Rattle.theory.specs.Steps as steps
use Rattle.books.specs.Faults.{from_net, from_bytes, from_step}
use Rattle.books.specs.Frames.{Widths, framed}
use Rattle.books.specs.House.{with_fault, step_of, book_taken}
use Rattle.books.specs.Joins.{either_number, from_first, from_second, joined_taken}
use Rattle.books.proofs.Housing.{house_whole, house_takes}
use Rattle.books.specs.Joining.{joined_keeps}
use Rattle.basics.specs.Basics.{basic_width, basic_taken}
use Rattle.merges.specs.Merges.{merge_width, merge_taken}
use Rattle.moves.specs.Moves.{move_width, move_taken}
use Rattle.sets.specs.Sets.{set_width, set_taken}
use Rattle.house.specs.House.{fault_number, later_number, later_width, taken_later, behind_number, behind_width, taken_behind, house_number, taken_by_house, encoded, numbered, JudgesSteps, TakesSteps}

-- Where a book stands among joined ones, the number of its refusal stays.
first_numbered : {F G : Type 0} (nf : F → ℕ) (ng : G → ℕ) (r : Result State F) → numbered (either_number nf ng) (from_first r) ≡ numbered nf r
first_numbered nf ng (Ok t) = refl
first_numbered nf ng (Err e) = refl

second_numbered : {F G : Type 0} (nf : F → ℕ) (ng : G → ℕ) (r : Result State G) → numbered (either_number nf ng) (from_second r) ≡ numbered ng r
second_numbered nf ng (Ok t) = refl
second_numbered nf ng (Err e) = refl

abbrev owns : Widths → List ℕ → Bool
owns width bs = ltb 0 (length bs) && is_some (width (get_or bs 0 0))

module _ {F G : Type 0} (nf : F → ℕ) (ng : G → ℕ) (wf : Widths) (f : State → List ℕ → Result State F) (g : State → List ℕ → Result State G) (s : State) (bs : List ℕ) where
  in_first : owns wf bs ≡ true → numbered (either_number nf ng) (joined_taken wf f g s bs) ≡ numbered nf (f s bs)
  in_first e =
      ap (λ (b : Bool). numbered (either_number nf ng) (cond b (from_first (f s bs)) (from_second (g s bs)))) e ∙ first_numbered nf ng (f s bs)

  in_second : owns wf bs ≡ false → numbered (either_number nf ng) (joined_taken wf f g s bs) ≡ numbered ng (g s bs)
  in_second e =
      ap (λ (b : Bool). numbered (either_number nf ng) (cond b (from_first (f s bs)) (from_second (g s bs)))) e ∙ second_numbered nf ng (g s bs)

-- A house book judges a whole step as the step's definition does.
module _ (first : ℕ) (width : Widths) (parse : List ℕ → steps.Step) where
  fault_numbered : (d : Result State Refusal) → numbered (fault_number {first = first}) (with_fault (from_step {first = first}) d) ≡ numbered steps.refusal_number d
  fault_numbered (Ok t) = refl
  fault_numbered (Err e) = refl

  by_book : (s : State) (bs : List ℕ) (x : steps.Step) → sized s ≡ true → framed width bs ≡ Ok tt → parse bs ≡ x
      → numbered (fault_number {first = first}) (book_taken {first = first} width parse s bs) ≡ numbered steps.refusal_number (steps.step s x)
  by_book s bs x z f e =
      ap (numbered (fault_number {first = first})) (house_whole (from_net {first = first}) from_bytes from_step width parse s bs (ap (λ (b : Bool). cond b (Ok tt) (Err WrongSize)) z) f)
      ∙ fault_numbered (steps.step s (parse bs)) ∙ ap (λ (y : steps.Step). numbered steps.refusal_number (steps.step s y)) e

-- Two bytes of a number, and the eight bytes of a set.
two_back : (k : ℕ) → 256 * (k / 256) + k % 256 ≡ k
two_back k = omega arith

set_back : (z : List ℕ) → length z ≡ 8 → take 8 z ≡ z
set_back z h = take_all 8 z (omega arith)

-- The way of a step to its book: past the books that do not own its first byte.
module _ (s : State) (x : steps.Step) (z : sized s ≡ true) where
  abbrev JudgedBy : {F : Type 0} → (F → ℕ) → (State → List ℕ → Result State F) → Type 0
  JudgedBy number taken = numbered number (taken s (encoded x)) ≡ numbered steps.refusal_number (steps.step s x)

  to_basics : owns basic_width (encoded x) ≡ true → framed basic_width (encoded x) ≡ Ok tt → step_of (encoded x) ≡ x
      → JudgedBy house_number taken_by_house
  to_basics o f e =
      in_first (fault_number {first = 0x20}) behind_number basic_width basic_taken taken_behind s (encoded x) o
      ∙ by_book 0x20 basic_width step_of s (encoded x) x z f e

  past_basics : owns basic_width (encoded x) ≡ false → JudgedBy behind_number taken_behind → JudgedBy house_number taken_by_house
  past_basics n e = in_second (fault_number {first = 0x20}) behind_number basic_width basic_taken taken_behind s (encoded x) n ∙ e

  to_sets : owns set_width (encoded x) ≡ true → framed set_width (encoded x) ≡ Ok tt → step_of (encoded x) ≡ x → JudgedBy behind_number taken_behind
  to_sets o f e =
      in_first (fault_number {first = 0x28}) later_number set_width set_taken taken_later s (encoded x) o
      ∙ by_book 0x28 set_width step_of s (encoded x) x z f e

  past_sets : owns set_width (encoded x) ≡ false → JudgedBy later_number taken_later → JudgedBy behind_number taken_behind
  past_sets n e = in_second (fault_number {first = 0x28}) later_number set_width set_taken taken_later s (encoded x) n ∙ e

  to_merges : owns merge_width (encoded x) ≡ true → framed merge_width (encoded x) ≡ Ok tt → step_of (encoded x) ≡ x
      → JudgedBy later_number taken_later
  to_merges o f e =
      in_first (fault_number {first = 0x2a}) (fault_number {first = 0x2d}) merge_width merge_taken move_taken s (encoded x) o
      ∙ by_book 0x2a merge_width step_of s (encoded x) x z f e

  to_moves : owns merge_width (encoded x) ≡ false → framed move_width (encoded x) ≡ Ok tt → step_of (encoded x) ≡ x → JudgedBy later_number taken_later
  to_moves n f e =
      in_second (fault_number {first = 0x2a}) (fault_number {first = 0x2d}) merge_width merge_taken move_taken s (encoded x) n
      ∙ by_book 0x2d move_width step_of s (encoded x) x z f e

pub judges_steps : JudgesSteps
judges_steps s (steps.drop_dominated t u) z w = to_basics s (steps.drop_dominated t u) z refl refl refl
judges_steps s (steps.drop_composed t u v) z w = to_basics s (steps.drop_composed t u v) z refl refl refl
judges_steps s (steps.drop_draining t) z w = to_basics s (steps.drop_draining t) z refl refl refl
judges_steps s (steps.drop_starved t p) z w = to_basics s (steps.drop_starved t p) z refl refl refl
judges_steps s (steps.keep_sourceless t) z w = to_basics s (steps.keep_sourceless t) z refl refl refl
judges_steps s (steps.remove_plentiful p) z w = to_basics s (steps.remove_plentiful p) z refl refl refl
judges_steps s (steps.drop_multiple t u k) z w = to_basics s (steps.drop_multiple t u k) z refl refl (ap (λ n. steps.drop_multiple t u n) (two_back k))
judges_steps s (steps.remove_implied p q k) z w = to_basics s (steps.remove_implied p q k) z refl refl (ap (λ n. steps.remove_implied p q n) (two_back k))
judges_steps s (steps.drop_siphon y) z w =
    past_basics s (steps.drop_siphon y) z (rw w) (to_sets s (steps.drop_siphon y) z (rw w) (rw w) (ap (λ l. steps.drop_siphon l) (set_back y w)))
judges_steps s (steps.limit_to y) z w =
    past_basics s (steps.limit_to y) z (rw w) (to_sets s (steps.limit_to y) z (rw w) (rw w) (ap (λ l. steps.limit_to l) (set_back y w)))
judges_steps s (steps.post_agglomerate p) z w =
    past_basics s (steps.post_agglomerate p) z refl (past_sets s (steps.post_agglomerate p) z refl (to_merges s (steps.post_agglomerate p) z refl refl refl))
judges_steps s (steps.pre_agglomerate p) z w =
    past_basics s (steps.pre_agglomerate p) z refl (past_sets s (steps.pre_agglomerate p) z refl (to_merges s (steps.pre_agglomerate p) z refl refl refl))
judges_steps s (steps.free_agglomerate p) z w =
    past_basics s (steps.free_agglomerate p) z refl (past_sets s (steps.free_agglomerate p) z refl (to_merges s (steps.free_agglomerate p) z refl refl refl))
judges_steps s (steps.fire_ahead t k) z w =
    past_basics s (steps.fire_ahead t k) z refl
    (past_sets s (steps.fire_ahead t k) z refl (to_moves s (steps.fire_ahead t k) z refl refl (ap (λ n. steps.fire_ahead t n) (two_back k))))
judges_steps s (steps.fuse_places p q a b) z w =
    past_basics s (steps.fuse_places p q a b) z refl (past_sets s (steps.fuse_places p q a b) z refl (to_moves s (steps.fuse_places p q a b) z refl refl refl))

pub takes_steps : TakesSteps
takes_steps s t bs h =
    joined_keeps (fault_number {first = 0x20}) behind_number basic_width behind_width basic_taken taken_behind IsStep s t bs
    (λ k. (step_of bs, house_takes (from_net {first = 0x20}) from_bytes from_step basic_width step_of s t bs k))
    (joined_keeps (fault_number {first = 0x28}) later_number set_width later_width set_taken taken_later IsStep s t bs
    (λ k. (step_of bs, house_takes (from_net {first = 0x28}) from_bytes from_step set_width step_of s t bs k))
    (joined_keeps (fault_number {first = 0x2a}) (fault_number {first = 0x2d}) merge_width move_width merge_taken move_taken IsStep s t bs
    (λ k. (step_of bs, house_takes (from_net {first = 0x2a}) from_bytes from_step merge_width step_of s t bs k))
    (λ k. (step_of bs, house_takes (from_net {first = 0x2d}) from_bytes from_step move_width step_of s t bs k)))) h
  where
    IsStep : State → Type 0
    IsStep u = (x : steps.Step) × (steps.step s x ≡ Ok u)
