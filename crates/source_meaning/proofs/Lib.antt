mod Trees
mod Examples
mod ExpressionExamples
mod StatementExamples
mod Steps
mod Fields
