pub mod Denial
pub mod NoticeWalk
pub mod NoticeTaken
