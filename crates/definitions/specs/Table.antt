-- Tables of cases, each with one theorem that the definitions give them. Not to be believed: they try what is.
pub mod Opened
pub mod Drawer
pub mod Cases
pub mod Whole
pub mod LabelCases
pub mod TypeCases
pub mod KindCases
pub mod EveryCases
pub mod LayerCases
pub mod TallyCases
pub mod TriesDrawn
pub mod JudgementCases
pub mod FindingCases
pub mod MonotoneCases
pub mod AllowanceCases
pub mod PageCases
pub mod PddlCases
