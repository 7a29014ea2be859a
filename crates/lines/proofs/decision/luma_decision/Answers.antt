-- `luma_decision` meets its contract: at each `return` the tests that led there say which case the decision is.
-- Assumes nothing.
use Prim.Native.Nat.{◌+◌, ◌*◌}
use mathlib.Core.Path.{◌≡◌, ◌∙◌}
use mathlib.Core.Bool.{◌&&◌}
use Rattle.lines.proofs.Answer.{decision_answered}
use Rattle.lines.proofs.Decided.{Activities, line_flat, decided_skip, decided_weak, decided_strong}
use Rattle.lines.proofs.decision.luma_decision.Goals as goal
use Rattle.lines.proofs.decision.luma_decision.Goals.{After-side_activity-dq3, Joined-d_sam0, then-d_sam0, else-d_sam0}

-- the four activities, as the call has them
activities : (c : After-side_activity-dq3)
    → Activities c.args.l0 c.args.l3 c.side_activity-dp0.result c.side_activity-dp3.result
    c.side_activity-dq0.result c.side_activity-dq3.result
activities c =
    record {
      dp0_is = c.side_activity-dp0.ensures.value;
      dp3_is = c.side_activity-dp3.ensures.value;
      dq0_is = c.side_activity-dq0.ensures.value;
      dq3_is = c.side_activity-dq3.ensures.value;
    }

pub returns-then-d-beta : goal.returns-then-d-beta
returns-then-d-beta c =
    let a = activities (goal.at.returns-then-d-beta c).After-side_activity-dq3 in
    decision_answered _ _ _ _ (decided_skip _ _ a c.if-d-beta.true)
    c.with_counts.ensures.decision c.with_counts.ensures.counts

-- both lines are flat where line 0 is and, then looked at, line 3
flat : (c : Joined-d_sam0)
    → c.if-d_sam0.d_sam3
    ≡ (line_flat c.args.beta c.args.tc (2 * (c.side_activity-dp0.result + c.side_activity-dq0.result)) c.args.l0
    && line_flat c.args.beta c.args.tc (2 * (c.side_activity-dp3.result + c.side_activity-dq3.result)) c.args.l3)
flat c =
    rw (← c.d_sam-d_sam0.ensures)
    (elim c.if-d_sam0.branch [
      | then-d_sam0 w ↦ rw w.if-d_sam0.true (w.d_sam3-is ∙ w.d_sam-d_sam3.ensures)
      | else-d_sam0 w ↦ rw w.if-d_sam0.false (w.d_sam3-is ∙ w.if-d_sam0.false)
    ])

pub returns-then-d_sam3 : goal.returns-then-d_sam3
returns-then-d_sam3 c =
    let at = goal.at.returns-then-d_sam3 c in
    decision_answered _ _ _ _
    (decided_strong _ _ (activities at.After-side_activity-dq3) c.if-d-beta.false (flat at.Joined-d_sam0)
    c.if-d_sam3.true)
    c.with_counts-then-d_sam3.ensures.decision c.with_counts-then-d_sam3.ensures.counts

pub returns : goal.returns
returns c =
    let at = goal.at.returns c in
    decision_answered _ _ _ _
    (decided_weak _ _ (activities at.After-side_activity-dq3) c.if-d-beta.false (flat at.Joined-d_sam0)
    c.if-d_sam3.false)
    c.with_counts-2.ensures.decision c.with_counts-2.ensures.counts
