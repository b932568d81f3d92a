-- `rule_lines`: at each turn the clauses that are left, put down from where the pen is, are all that there is to say.
use Rattle.std.proofs.Common.{◌≡◌}
use Rattle.pen.specs.Pen.{put_all, content, lender}
use Rattle.xsb_export.specs.Exporting.{rule_read}
use Rattle.xsb_export.proofs.Exporting.{rules_left}
use Rattle.xsb_export.proofs.rules.rule_lines.Given as goal

abbrev pub invariant-loop-k : goal.invariant-loop-k
invariant-loop-k l = record {
  puts :
      put_all (rules_left (rule_read l.b l.head) l.first l.count l.k) (content l.pen)
      ≡ put_all (rules_left (rule_read l.b l.head) l.first l.count 0) (content l.fn.pen);
  same_buffer : lender l.pen ≡ lender l.fn.pen;
}
