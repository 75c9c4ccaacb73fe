use Rattle.std.proofs.Common.{◌≡◌, ℕ, Bool, ◌++◌, map, length, take, get_or, sym, ap, ◌∙◌, arith}
use Rattle.std.proofs.lemmas.List.{length-take-le, take_all}
use Rattle.std.proofs.lemmas.List.Folds.{list_all_at}
use Rattle.net.specs.States.{view}
use Rattle.theory.specs.Tests.{feeder?, feeders, consumers}
use Rattle.theory.specs.Rewrites.{crossed}
use Rattle.rewrites.proofs.Those.{those_at}
use Rattle.products.specs.Products.{product_row, numbers, consumers_fit?, feeders_fit?}
use Rattle.products.proofs.Crossing.{more_taken, crossed_room, crossed_more}
use Rattle.products.proofs.Fitting.{all_more, fit_listed}
use Rattle.products.proofs.push_all.Goals as goal

pub push_products-requires : goal.push_products-requires
push_products-requires g c =
    let s = view c.args.net.now in
    let i = c.loop-i.i in
    let at = those_at (feeder? s c.args.p) c.args.net.now.shape.transitions i 0 (omega (arith, ap length c.requires.1)) in (
      omega arith,
      (
        c.requires.0,
        omega (arith, at.1, ap (λ l. get_or l i 0) c.requires.1, c.args.net.now.shape.few),
        c.requires.2,
        omega (
          arith,
          ap length c.loop-i.invariant.1,
          crossed_room (product_row c.args.kind s c.args.p) (consumers s c.args.p) (take i c.args.feeding.now) (get_or c.args.feeding.now i 0)
              (length (feeders s c.args.p)) g.row.N (omega (arith, ap length c.requires.1, length-take-le i c.args.feeding.now (omega arith))) c.requires.3,
        ),
        c.requires.4,
      ),
    )

pub returns-in_err-push_products : goal.returns-in_err-push_products
returns-in_err-push_products g c =
    let s = view c.args.net.now in
    let fits : ℕ → Bool = λ h. consumers_fit? c.args.kind s c.args.p h (consumers s c.args.p) in
    rw c.from_residual.ensures (fit_listed c.args.kind s c.args.p
    ∙ list_all_at fits (feeders s c.args.p) c.loop-i.i 0 (omega (arith, ap length c.requires.1))
    (ap (λ l. fits (get_or l c.loop-i.i 0)) (sym c.requires.1) ∙ c.in_err-push_products.ensures))

pub loop-i-preserved : goal.loop-i-preserved
loop-i-preserved g c =
    let s = view c.args.net.now in
    let i = c.loop-i.i in
    let h = get_or c.args.feeding.now i 0 in
    let fits : ℕ → Bool = λ h. consumers_fit? c.args.kind s c.args.p h (consumers s c.args.p) in
    let more = more_taken c.args.feeding.now i (omega arith) in (
      rw more (all_more fits (take i c.args.feeding.now) h c.loop-i.invariant.0 c.in_ok-push_products.ensures.0),
      rw more (c.in_ok-push_products.ensures.1
          ∙ ap (λ l. l ++ map (λ f. numbers (product_row c.args.kind s c.args.p h f)) (consumers s c.args.p)) c.loop-i.invariant.1
          ∙ crossed_more (product_row c.args.kind s c.args.p) (consumers s c.args.p) (take i c.args.feeding.now) h),
    )

pub returns : goal.returns
returns g c =
    let s = view c.args.net.now in
    let all : take c.loop-i.i c.args.feeding.now ≡ c.args.feeding.now = take_all c.loop-i.i c.args.feeding.now (omega arith) in
    let same = all ∙ c.requires.1 in (
      fit_listed c.args.kind s c.args.p ∙ ap (λ l. feeders_fit? c.args.kind s c.args.p l (consumers s c.args.p)) (sym same) ∙ c.loop-i.invariant.0,
      c.loop-i.invariant.1 ∙ ap (λ l. map numbers (crossed (product_row c.args.kind s c.args.p) l (consumers s c.args.p))) same,
    )
