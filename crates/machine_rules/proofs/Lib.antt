mod CallLemmas
mod FollowLemmas
mod Rows
mod RunLemmas
mod StoreLemmas
mod ValueLemmas
