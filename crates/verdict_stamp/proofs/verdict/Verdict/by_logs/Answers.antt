use Rattle.verdict_stamp.proofs.Listed.{by_logs_is, on_version}
use Rattle.verdict_stamp.proofs.Logged.{accepted_by, refused_by}
use Rattle.verdict_stamp.proofs.verdict.Verdict.by_logs.Goals as goal

pub returns-in_default-clause-accepted : goal.returns-in_default-clause-accepted
returns-in_default-clause-accepted c =
    refused_by c.args.version.now c.product-product.result.now c.k-k.result c.classes.result.now c.args.pair.member c.args.base.now c.args.step.now c.in_ok-pairs.field-0 c.product-product.ensures.pair c.k-k.ensures c.classes.ensures.classes c.in_default.is c.in_ok-pairs.ensures.accepted

pub of-requires : goal.of-requires
of-requires c =
    let is = by_logs_is c.args.version.now c.product-product.result.now c.k-k.result c.classes.result.now c.args.pair.member c.in_ok-pairs.field-0 c.in-Some.pairs c.product-product.ensures.kept c.product-product.ensures.pair c.k-k.ensures c.classes.ensures.classes c.in-Some.is c.in_ok-pairs.ensures.passes c.in_ok-pairs.ensures.together c.requires.needed in
    record { passed = on_version c.args.version.now c.args.pair.member c.requires.needed is.1 }

pub returns-then-len-gt-MOST_PAIRS-clause-accepted : goal.returns-then-len-gt-MOST_PAIRS-clause-accepted
returns-then-len-gt-MOST_PAIRS-clause-accepted c =
    accepted_by c.args.version.now c.product-product.result.now c.k-k.result c.classes.result.now c.args.pair.member c.args.base.now c.args.step.now c.in_ok-pairs.field-0 c.in-Some.pairs c.product-product.ensures.pair c.k-k.ensures c.classes.ensures.classes c.in-Some.is c.in_ok-pairs.ensures.accepted

pub by_pairs-requires : goal.by_pairs-requires
by_pairs-requires c =
    let is = by_logs_is c.args.version.now c.product-product.result.now c.k-k.result c.classes.result.now c.args.pair.member c.in_ok-pairs.field-0 c.in-Some.pairs c.product-product.ensures.kept c.product-product.ensures.pair c.k-k.ensures c.classes.ensures.classes c.in-Some.is c.in_ok-pairs.ensures.passes c.in_ok-pairs.ensures.together c.requires.needed in
    record { passed = is.0 }

pub returns-clause-accepted : goal.returns-clause-accepted
returns-clause-accepted c =
    accepted_by c.args.version.now c.product-product.result.now c.k-k.result c.classes.result.now c.args.pair.member c.args.base.now c.args.step.now c.in_ok-pairs.field-0 c.in-Some.pairs c.product-product.ensures.pair c.k-k.ensures c.classes.ensures.classes c.in-Some.is c.in_ok-pairs.ensures.accepted
