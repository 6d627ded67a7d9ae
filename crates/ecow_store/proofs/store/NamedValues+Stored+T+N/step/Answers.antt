use Rattle.ecow_store.proofs.store.NamedValues+Stored+T+N.step.Goals as goal

pub returns-in-Vec-clause-step : goal.returns-in-Vec-clause-step
returns-in-Vec-clause-step g c = λ clones. rw (c.in-Vec.is, ← c.self.view_is, ← c.usage.ensures) (c.carry_out.ensures.step clones)

pub returns-in-Vec-clause-bytes_and_texts : goal.returns-in-Vec-clause-bytes_and_texts
returns-in-Vec-clause-bytes_and_texts g c = rw (c.in-Vec.is, ← c.self.view_is, ← c.usage.ensures) c.carry_out.ensures.step

pub returns-in-Vec-clause-verdict : goal.returns-in-Vec-clause-verdict
returns-in-Vec-clause-verdict g c = rw (c.in-Vec.is, ← c.self.view_is, ← c.usage.ensures) (c.carry_out.ensures.verdict, c.carry_out.ensures.unchanged)

pub returns-in-Bytes-clause-step : goal.returns-in-Bytes-clause-step
returns-in-Bytes-clause-step g c = λ clones. rw (c.in-Bytes.is, ← c.self.view_is, ← c.usage-in-Bytes.ensures) (c.carry_out-in-Bytes.ensures.step tt)

pub returns-in-Bytes-clause-bytes_and_texts : goal.returns-in-Bytes-clause-bytes_and_texts
returns-in-Bytes-clause-bytes_and_texts g c = rw (c.in-Bytes.is, ← c.self.view_is, ← c.usage-in-Bytes.ensures) (c.carry_out-in-Bytes.ensures.step tt)

pub returns-in-Bytes-clause-verdict : goal.returns-in-Bytes-clause-verdict
returns-in-Bytes-clause-verdict g c = rw (c.in-Bytes.is, ← c.self.view_is, ← c.usage-in-Bytes.ensures) (c.carry_out-in-Bytes.ensures.verdict, c.carry_out-in-Bytes.ensures.unchanged)

pub returns-in-Text-clause-step : goal.returns-in-Text-clause-step
returns-in-Text-clause-step g c = λ clones. rw (c.in-Text.is, ← c.self.view_is, ← c.usage-in-Text.ensures) (c.carry_out-in-Text.ensures.step tt)

pub returns-in-Text-clause-bytes_and_texts : goal.returns-in-Text-clause-bytes_and_texts
returns-in-Text-clause-bytes_and_texts g c = rw (c.in-Text.is, ← c.self.view_is, ← c.usage-in-Text.ensures) (c.carry_out-in-Text.ensures.step tt)

pub returns-in-Text-clause-verdict : goal.returns-in-Text-clause-verdict
returns-in-Text-clause-verdict g c = rw (c.in-Text.is, ← c.self.view_is, ← c.usage-in-Text.ensures) (c.carry_out-in-Text.ensures.verdict, c.carry_out-in-Text.ensures.unchanged)
