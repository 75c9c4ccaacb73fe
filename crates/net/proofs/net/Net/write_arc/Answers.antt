use Rattle.net.proofs.Tidying.{weight_tidy}
use Rattle.net.proofs.net.Net.write_arc.Goals as goal

pub invariant_of-self : goal.invariant_of-self
invariant_of-self c =
    record {
      tidy =
          weight_tidy c.args.self.now.sheet.now c.args.self.now.shape.transitions c.args.at c.args.weight c.requires.row c.requires.room
          c.if-weight-gt-MOST_WEIGHT.false c.args.self.now.tidy;
    }
