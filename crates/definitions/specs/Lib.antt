-- Document 01, "Case sheets", as executable definitions. A text is the list of its bytes. A reader who believes these has nothing
-- else to believe; the tables of `Table` prove that they give the cases written there, and `laws`, `Writing`, that reading a rule's
-- formula is the inverse of writing it.
-- At the top: limits, lists, refusals. `Sheet/`, `Problem/` and `Reply/` are what has to be believed, in the order of the document;
-- `Table/` has cases, and nothing there has to be.
--
--   Limits, Lists                  every limit by name; plain functions on lists
--   "The sheets"                   Text, Relations, Rows (their tuples numbered), Formula, Sheets (Parsing reads a formula, and need not be believed)
--   "From rule to tree"            Formula (what is counted), Tree
--   "Atoms"                        Atoms
--   "Actions"                      Actions, Strips (taking steps), Built (built steps, the bound)
--   "The words of demand 3"        Demand, which says where each word is
--   "Refusal sheet"                Refusal, which says where each number is tested; Outcome (what each call gives)
--   "The desk program"             Desk
--   "Case drawer"                  Drawer; Cases has further ones, Whole looks at all that a call leaves
-- Document 02, "What customers want changed later":
--   job 1, door names              Sheets (labels, 18), Desk, Rewritten; LabelCases has cases
--   job 2, steps side by side      Layers; LayerCases has cases
--   job 3, sizes in one pass       Tally; TallyCases has cases
--   job 4, types                   Formula (19 in the rule), Sheets (`type` and `member` lines), Truth (ranges), Untyped; TypeCases
--                                  has cases
--   job 5, kinds with types        Sheets (the `choose` line), Truth (kinds, totality), Actions.set_rows; KindCases has cases
--   job 6, yes or no               Judgement; JudgementCases has cases
--   job 7, the groups found        Finding; FindingCases has cases
--   job 8, twenty tries            Tries; TriesDrawn has cases
--   job 9, on paper                Page; PageCases has cases
--   job 11, to and from PDDL       PddlMeaning (what PDDL makes of texts: this is to be believed), Pddl (texts and calls); Lifted fixes what is
--                                  written, and is held to PddlMeaning by a theorem (`Demands`, 24, texts_mean); PddlCases has cases
--   job 12, every set              Sheets (the `every` line), Truth (its values), Atoms, Actions and Built (rounds), Outcome.ground (23); EveryCases
--                                  has cases
--   job 13, rules that want more   Monotone; MonotoneCases has cases
--   job 14, one card               Allowance; AllowanceCases has cases
pub mod Limits
pub mod Lists
pub mod Refusal
pub mod Sheet
pub mod Problem
pub mod Reply
pub mod Table
