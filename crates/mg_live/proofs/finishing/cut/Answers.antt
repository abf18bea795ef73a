use Rattle.std.proofs.Common.{◌≡◌, ◌∙◌, ap}
use Rattle.mg_live.specs.Gathering.{is_begun}
use Rattle.mg_live.specs.States.{Live}
use Rattle.mg_live.proofs.finishing.cut.Goals as goal

pub returns : goal.returns
returns c =
    let pasted : c.is_begun-is_pasted.result ≡ is_begun c.args.live.now.paste =
    c.is_begun-is_pasted.ensures ∙ ap (λ (l : Live). is_begun l.paste) c.live.view_is in
    let spliced : c.is_begun-is_spliced.result ≡ is_begun c.args.live.now.splice =
    c.is_begun-is_spliced.ensures ∙ ap (λ (l : Live). is_begun l.splice) c.live.view_is in
    record {
      reported = c.cut_if-course.new.live;
      pasted = c.cut_if-course-2.new.live;
      first = c.cut_if-course.result;
      second = c.cut_if-course-2.result;
      report = rw c.count_if.ensures at c.cut_if-course.ensures;
      paste = rw pasted at c.cut_if-course-2.ensures;
      splice = rw spliced at c.cut_if.ensures;
    }
