-- The counts that a reply brings have 24 bits, so that merging them keeps to the limit.
use Rattle.std.proofs.Common.{◌<◌, [], sym, ◌∙◌, rules}
use Rattle.std.specs.List.{AllByRecursion}
use Rattle.std.proofs.ByRecursion.{All-from_get_or}
use Rattle.sites.specs.States.{state_of}
use Rattle.sites.proofs.Limits.{merged_reply}
use Rattle.sites.proofs.site.Site.try_take.Goals as goal

pub invariant_of-self-clause-sent_within : goal.invariant_of-self-clause-sent_within
invariant_of-self-clause-sent_within g c =
    let o = c.args.self.now in
    let bytes = c.args.bytes.now in
    let small : AllByRecursion (λ b. b < 256) bytes = All-from_get_or (λ b. b < 256) bytes 0 (λ i h. search rules) in
    merged_reply g.V.ValueKind.kind g.met.V.ValueKind.lawful (state_of o [] [] []) bytes c.in_ok-reply.reply c.merge.new.self.counts small
    (sym c.read_reply.ensures ∙ c.in_ok-reply.was) (sym c.reply_for_here.ensures ∙ c.if-not-reply_for_here.false) o.sent_within c.merge.ensures
