use Rattle.xg_check.proofs.Acceptance.{HoldsBeforeVerdict, judged_alone, judged_shows, judged_upgradable}
use Rattle.xg_check.proofs.checking.accept_bytes.Goals as goal

pub returns-in-Ok-judge-clause-shown : goal.returns-in-Ok-judge-clause-shown
returns-in-Ok-judge-clause-shown c =
    let ready : HoldsBeforeVerdict c.args.numbers.now c.args.cert_bytes.now c.in-Ok.cert =
    record {
      order_one = c.judge.ensures.order_one;
      order_two = c.judge.ensures.order_two;
      some_unit = c.judge.ensures.some_unit;
      whole_sum = c.judge.ensures.whole_sum;
      fits = c.in-Ok.ensures.fits;
      text = c.in-Ok.ensures.text;
    } in
    judged_shows c.in-Ok-judge.verdict c.args.numbers.now c.args.cert_bytes.now c.in-Ok.cert ready c.in-Ok-judge.ensures.exact

pub returns-in-Ok-judge-clause-head_only : goal.returns-in-Ok-judge-clause-head_only
returns-in-Ok-judge-clause-head_only c =
    let ready : HoldsBeforeVerdict c.args.numbers.now c.args.cert_bytes.now c.in-Ok.cert =
    record {
      order_one = c.judge.ensures.order_one;
      order_two = c.judge.ensures.order_two;
      some_unit = c.judge.ensures.some_unit;
      whole_sum = c.judge.ensures.whole_sum;
      fits = c.in-Ok.ensures.fits;
      text = c.in-Ok.ensures.text;
    } in
    judged_alone c.in-Ok-judge.verdict c.args.numbers.now c.args.cert_bytes.now c.in-Ok.cert ready c.in-Ok-judge.ensures.exact

pub returns-in-Ok-judge-clause-upgradable : goal.returns-in-Ok-judge-clause-upgradable
returns-in-Ok-judge-clause-upgradable c =
    let ready : HoldsBeforeVerdict c.args.numbers.now c.args.cert_bytes.now c.in-Ok.cert =
    record {
      order_one = c.judge.ensures.order_one;
      order_two = c.judge.ensures.order_two;
      some_unit = c.judge.ensures.some_unit;
      whole_sum = c.judge.ensures.whole_sum;
      fits = c.in-Ok.ensures.fits;
      text = c.in-Ok.ensures.text;
    } in
    judged_upgradable c.in-Ok-judge.verdict c.args.numbers.now c.args.cert_bytes.now c.in-Ok.cert ready c.in-Ok-judge.ensures.exact
