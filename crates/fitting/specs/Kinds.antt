-- The declared kinds under one name each.
pub use Rattle.model.specs.declared.order.Order.{Order}
pub use Rattle.model.specs.declared.build.Partition.{Partition}
pub use Rattle.model.specs.Kinds.{Answer}
pub use Rattle.model.specs.declared.answer.Refusal.{Refusal}
pub use Rattle.model.specs.declared.answer.Refusal.TheVariants.{OfCall}
pub use Rattle.model.specs.declared.answer.CallCause.TheVariants.{FirstFit}
pub use Rattle.demand.specs.Verdict.{Verdict}
pub use Rattle.demand.specs.declared.Failing.TheVariants.{NoWindow, NoStart, TooLate}
pub use Rattle.fitting.specs.declared.Placing.{Placing}
